use Rattle.std.proofs.Common.{rules, ap, subst}
use Rattle.std.specs.Prelude.{IfOk}
use Rattle.event_core.specs.declared.ids.ThreadId.{ThreadId}
use Rattle.log_pass.specs.Passes.{main}
use Rattle.log_pass.specs.declared.views.PassView.{PassView}
use Rattle.script_drive.specs.Ends.{PassedGate}
use Rattle.script_drive.specs.Lines.{lines_by}
use Rattle.script_drive.specs.Workers.{Done}
use Rattle.script_drive.proofs.Ends.{all_halts, passed_ok, through_ok}
use Rattle.script_drive.proofs.driving.fn.run_all.scope.Goals as goal

-- want of memory is a fault of each script
pub returns-in_default : goal.returns-in_default
returns-in_default g c = record { done = tt; passed = tt; through = tt; fault = ∣ tt ∣₁ }

pub finish-requires : goal.finish-requires
finish-requires g c =
    let script = g.S.DriveName.lines in
    let thread = ap (λ (p : PassView). p.thread) c.requires.pass in
    record {
      done = subst (λ (t : ThreadId). IfOk c.run_lines-main_end.result (Done script t)) thread
          c.run_lines-main_end.ensures.done;
      halt = c.run_lines-main_end.ensures.halt;
      halts = all_halts g.S.Name.limits g.S.DriveName.ahead script g.G.Gate.admitted g.G.Gate.told
          c.in_ok-started.started.items c.in-Ok.ends.items (λ handle. handle.promise.thread) (search rules)
          (λ i d lt. let kept = (c.in-Ok.ensures.each i d (search rules)).1 in
          (kept.handle, kept.handle_is, kept.kept));
    }

pub returns : goal.returns
returns g c =
    let script = g.S.DriveName.lines in
    let admitted = g.G.Gate.admitted in
    let told = g.G.Gate.told in
    let thread = ap (λ (p : PassView). p.thread) c.requires.pass in
    record {
      done = c.finish.ensures.done;
      passed = passed_ok (PassedGate admitted told (lines_by main script)) c.finish.result
          c.run_lines-main_end.result c.finish.ensures.ok
          (subst (λ (t : ThreadId). IfOk c.run_lines-main_end.result
          (λ _. PassedGate admitted told (lines_by t script)))
          thread c.run_lines-main_end.ensures.passed);
      through = through_ok g.S.Name.limits g.S.DriveName.ahead script admitted told
          c.in_ok-started.started.items c.in-Ok.ends.items (λ handle. handle.promise.thread) (search rules)
          (λ i d lt. let kept = (c.in-Ok.ensures.each i d (search rules)).1 in
          (kept.handle, kept.handle_is, kept.kept))
          _ c.finish.result c.in_ok-started.ensures.all c.finish.ensures.met;
      fault = c.finish.ensures.fault;
    }
