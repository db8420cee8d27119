use Rattle.std.proofs.Common.{◌∙◌, ◌-◌, arith, ap, subst, length, length-drop, List, ℕ}
use Rattle.std.proofs.Math.Bool.{or-false}
use Rattle.rapid_text.specs.Cutting.{Cutting, FailsAt}
use Rattle.rapid_text.specs.Pulling.{pulling_of}
use Rattle.rapid_text.proofs.NameGrowth.{TablesGrow-trans, TablesGrow-same}
use Rattle.rapid_text.proofs.PullingProperties.{runs_on, no_event, grown, handed_on, after_push, push_fails}
use Rattle.rapid_text.proofs.PullingProperties.{at_end, closes_text, end_fails, end_begins, takes_more}
use Rattle.rapid_text.proofs.TurnsProperties.{one_turn}
use Rattle.rapid_text.proofs.reader.next_event.Goals as goal

pub returns-in_err-event-in-Ok-eq0-clause-grows : goal.returns-in_err-event-in-Ok-eq0-clause-grows
returns-in_err-event-in-Ok-eq0-clause-grows g c =
    grown _ _ _ _ c.pulls.invariant.grows c.push.ensures.grows c.finish.ensures.grows

pub returns-in_err-event-in-Ok-eq0-clause-fault : goal.returns-in_err-event-in-Ok-eq0-clause-fault
returns-in_err-event-in-Ok-eq0-clause-fault g c =
    let ended = c.in-Ok-eq0.ensures.end c.in-Ok-eq0.field-0-test in
    rw (
      handed_on c.from_residual-in_err-event-in-Ok-eq0.result c.in_err-event-in-Ok-eq0.field-0.0
          c.from_residual-in_err-event-in-Ok-eq0.ensures.1,
      c.requires.begun,
    )
    (end_fails (pulling_of c.finish.new.self c.fill.new.self (c.pulls.turns - 1) c.pulls.ended) _ _ _
    (at_end c.pulls.invariant.running
    (no_event c.in_ok-used.ensures.ok c.waiting.ensures c.if-is_some.ensures)
    c.in-Ok-eq0.ensures.bytes ended.1 ended.0) c.in_err-event-in-Ok-eq0.ensures.fault)

pub returns-in_err-event-in-Ok-eq0-clause-before : goal.returns-in_err-event-in-Ok-eq0-clause-before
returns-in_err-event-in-Ok-eq0-clause-before g c =
    let ended = c.in-Ok-eq0.ensures.end c.in-Ok-eq0.field-0-test in
    rw (
      handed_on c.from_residual-in_err-event-in-Ok-eq0.result c.in_err-event-in-Ok-eq0.field-0.0
          c.from_residual-in_err-event-in-Ok-eq0.ensures.1,
      c.requires.begun,
    )
    (end_begins (at_end c.pulls.invariant.running
    (no_event c.in_ok-used.ensures.ok c.waiting.ensures c.if-is_some.ensures)
    c.in-Ok-eq0.ensures.bytes ended.1 ended.0) c.in_err-event-in-Ok-eq0.ensures.before)

pub returns-in-Ok-eq0-clause-grows : goal.returns-in-Ok-eq0-clause-grows
returns-in-Ok-eq0-clause-grows g c =
    grown _ _ _ _ c.pulls.invariant.grows c.push.ensures.grows c.finish.ensures.grows

pub returns-in-Ok-eq0-clause-ok : goal.returns-in-Ok-eq0-clause-ok
returns-in-Ok-eq0-clause-ok g c =
    let ended = c.in-Ok-eq0.ensures.end c.in-Ok-eq0.field-0-test in
    rw c.requires.begun (closes_text _ _ _ (at_end c.pulls.invariant.running
    (no_event c.in_ok-used.ensures.ok c.waiting.ensures c.if-is_some.ensures)
    c.in-Ok-eq0.ensures.bytes ended.1 ended.0) ended.1 c.in_ok-event-in-Ok-eq0.ensures.ok)

pub pulls-preserved : goal.pulls-preserved
pulls-preserved g c =
    let left = g.I.Input.left in
    let taken = takes_more c.args.turns.now c.pulls.turns (left c.args.input.now) (left c.pulls.input)
    (left c.fill.new.input) c.fill.new.self (c.pulls.invariant.bytes, c.pulls.invariant.few)
    c.in-Ok.ensures.bytes
    (omega (arith, c.in-Ok.ensures.len, c.in-Ok.field-0-test.1)) c.in-Ok.ensures.short
    (omega (arith, c.if-turns-eq0.false)) in
    record {
      running = runs_on c.pulls.invariant.running
          (no_event c.in_ok-used.ensures.ok c.waiting.ensures c.if-is_some.ensures)
          (omega (arith, c.if-turns-eq0.false)) c.in-Ok.ensures.bytes c.in-Ok.ensures.short;
      healthy = c.in-Ok.ensures.failed
          ∙ (or-false (g.I.Input.failed c.pulls.input) ∙ c.pulls.invariant.healthy);
      bytes = taken.0;
      few = taken.1;
      pulls = one_turn c.args.turns.now c.pulls.turns (g.I.Input.pulls c.args.input.now)
          (g.I.Input.pulls c.pulls.input) (g.I.Input.pulls c.fill.new.input)
          c.pulls.invariant.running.turns_left (omega (arith, c.if-turns-eq0.false))
          c.pulls.invariant.pulls c.in-Ok.ensures.counts;
      going = c.pulls.invariant.going;
      grows = TablesGrow-trans _ _ _ c.pulls.invariant.grows c.push.ensures.grows;
    }

pub fill-requires : goal.fill-requires
fill-requires g c =
    c.skip.ensures ∙ (after_push c.pulls.invariant.running
    (no_event c.in_ok-used.ensures.ok c.waiting.ensures c.if-is_some.ensures)).0

pub returns-then-is_some-clause-room : goal.returns-then-is_some-clause-room
returns-then-is_some-clause-room g c =
    rw c.skip.ensures (omega (
      arith,
      length-drop c.in_ok-used.used c.pulls.window,
      ap length c.waiting.ensures,
      c.in_ok-used.ensures.ok.taken,
      c.in_ok-used.ensures.ok.used_within,
      c.pulls.invariant.running.room,
    ))

pub returns-then-is_some-clause-grows : goal.returns-then-is_some-clause-grows
returns-then-is_some-clause-grows g c =
    TablesGrow-trans _ _ _ c.pulls.invariant.grows c.push.ensures.grows

pub returns-in_err-used-clause-fault : goal.returns-in_err-used-clause-fault
returns-in_err-used-clause-fault g c =
    let fault = c.in_err-used.field-0.0 in
    rw (handed_on c.from_residual.result fault c.from_residual.ensures.1, c.requires.begun)
    (push_fails (pulling_of c.push.new.self c.pulls.window c.pulls.turns c.pulls.ended) _ _ _ fault.cause
    c.pulls.invariant.running
    (subst (λ (w : List ℕ). FailsAt c.pulls.cutter w fault fault.cause) c.waiting.ensures
    c.in_err-used.ensures.fault))

pub returns-in_err-used-clause-grows : goal.returns-in_err-used-clause-grows
returns-in_err-used-clause-grows g c =
    TablesGrow-trans _ _ _ c.pulls.invariant.grows c.push.ensures.grows

pub returns-in-Err-clause-grows : goal.returns-in-Err-clause-grows
returns-in-Err-clause-grows g c =
    grown _ _ _ _ c.pulls.invariant.grows c.push.ensures.grows
    (TablesGrow-same _ _ (ap (λ (s : Cutting). s.names)
    (c.read_failed-in-Err.ensures.failed c.in_ok-used.ensures.ok.live.1)))

pub returns-then-turns-eq0-clause-grows : goal.returns-then-turns-eq0-clause-grows
returns-then-turns-eq0-clause-grows g c =
    grown _ _ _ _ c.pulls.invariant.grows c.push.ensures.grows
    (TablesGrow-same _ _ (ap (λ (s : Cutting). s.names)
    (c.read_failed.ensures.failed c.in_ok-used.ensures.ok.live.1)))
