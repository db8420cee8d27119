use Rattle.std.proofs.Common.{rules, ◌≡◌, ◌+◌, ◌∙◌, arith, sym, subst, drop, take_all}
use Rattle.script_drive.specs.Ends.{PassedGate}
use Rattle.script_drive.specs.Lines.{lines_by}
use Rattle.script_drive.specs.Workers.{HasDone, Serves}
use Rattle.script_drive.proofs.HasDoneProperties.{all_done, done_at, first_done, next_line, other_left}
use Rattle.script_drive.proofs.HasDoneProperties.{other_taken, passed_at}
use Rattle.script_drive.proofs.ScriptFaults.{line_at, next_at}
use Rattle.script_drive.proofs.lines.run_lines.Goals as goal

pub loop-line-init : goal.loop-line-init
loop-line-init g c = (
  first_done c.args.pass.thread c.args.pass c.requires.first,
  subst (λ ls. Serves c.args.links.now (lines_by c.args.pass.thread ls)) (search rules) c.requires.serves,
  record { is_pass = c.thread-thread.ensures.is_pass; run = c.requires.first.run },
  λ k d lt. absurd (omega (arith, lt)),
)

pub make_call-requires-clause-next : goal.make_call-requires-clause-next
make_call-requires-clause-next g c =
    let same : c.lines-line-items.result.now ≡ g.S.DriveName.lines = cc in
    next_at g.S.DriveName.lines c.lines-line-items.result.now c.args.pass.thread c.loop-line.pass
    c.loop-line.line-index c.get-line.result (search rules) same (search rules) (search rules)
    c.loop-line.invariant.0 c.loop-line.invariant.2

pub make_call-requires-clause-serves : goal.make_call-requires-clause-serves
make_call-requires-clause-serves g c =
    let lines = c.lines-line-items.result.now in
    let t = c.args.pass.thread in
    let i = c.loop-line.line-index in (
      lines_by t (drop (i + 1) lines),
      next_line t lines i c.get-line.result (search rules) (search rules) (search rules) c.loop-line.links
          c.loop-line.invariant.1,
    )

pub enter-requires : goal.enter-requires
enter-requires g c =
    let script = g.S.DriveName.lines in
    let lines = c.lines-line-items.result.now in
    let same : lines ≡ script = cc in record {
      line = line_at script lines c.loop-line.line-index c.get-line.result (search rules) same (search rules);
    }

pub loop-line-preserved : goal.loop-line-preserved
loop-line-preserved g c =
    let lines = c.lines-line-items.result.now in
    let t = c.args.pass.thread in
    let i = c.loop-line.line-index in (
      done_at t lines i c.get-line.result (search rules) (search rules) (search rules)
          c.loop-line.pass c.in_ok-pass.pass c.loop-line.invariant.0
          c.in_ok-pass.ensures.does,
      c.in_ok-pass.ensures.serves (lines_by t (drop (i + 1) lines))
          (next_line t lines i c.get-line.result (search rules) (search rules) (search rules)
          c.loop-line.links c.loop-line.invariant.1),
      c.in_ok-pass.ensures.saw,
      passed_at t lines i c.get-line.result (search rules) (search rules) (search rules) g.G.Gate.admitted
          g.G.Gate.told (search rules) (search rules) c.loop-line.invariant.3,
    )

-- another thread's line is passed over
pub loop-line-preserved-then-not-is_of : goal.loop-line-preserved-then-not-is_of
loop-line-preserved-then-not-is_of g c =
    let lines = c.lines-line-items.result.now in
    let t = c.args.pass.thread in
    let i = c.loop-line.line-index in (
      subst (HasDone t c.loop-line.pass)
          (sym (other_taken t lines i c.line-item.result (search rules) (search rules) (search rules)))
          c.loop-line.invariant.0,
      subst (Serves c.loop-line.links)
          (other_left t lines i c.line-item.result (search rules) (search rules) (search rules))
          c.loop-line.invariant.1,
      c.loop-line.invariant.2,
      subst (λ ls. PassedGate g.G.Gate.admitted g.G.Gate.told ls)
          (sym (other_taken t lines i c.line-item.result (search rules) (search rules) (search rules)))
          c.loop-line.invariant.3,
    )

pub returns-clause-done : goal.returns-clause-done
returns-clause-done g c =
    let script = g.S.DriveName.lines in
    let lines = c.lines-line-items.result.now in
    let same : lines ≡ script = cc in
    all_done script lines c.args.pass.thread c.loop-line.pass c.loop-line.line-index same (search rules)
    c.loop-line.invariant.0

pub returns-clause-passed : goal.returns-clause-passed
returns-clause-passed g c =
    let lines = c.lines-line-items.result.now in
    let same : lines ≡ g.S.DriveName.lines = cc in
    subst (λ ls. PassedGate g.G.Gate.admitted g.G.Gate.told (lines_by c.args.pass.thread ls))
    (take_all c.loop-line.line-index lines (search rules) ∙ same) c.loop-line.invariant.3
