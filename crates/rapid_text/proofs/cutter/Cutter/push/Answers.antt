use Rattle.std.proofs.Common.{◌∙◌, ap, sym, subst, arith, length, length-append, List, ℕ}
use Rattle.rapid_line.specs.Lines.{Lines}
use Rattle.rapid_text.specs.declared.causes.TextFault.{TextFault}
use Rattle.rapid_text.specs.Cutting.{Cutting, FailsAt}
use Rattle.rapid_text.proofs.NameGrowth.{TablesGrow-trans}
use Rattle.rapid_text.proofs.PushesProperties.{Going, live, goes_first, goes_on, goes_down, gives, keeps}
use Rattle.rapid_text.proofs.PushesProperties.{long_at, fails_at}
use Rattle.rapid_text.proofs.cutter.Cutter.push.Goals as goal

pub lines-init : goal.lines-init
lines-init c =
    let inside = c.self.inside in
    let piece = c.args.piece.now in
    let start = sym (live inside.names inside.lines inside.line inside.failed c.in_default.is) ∙
    c.self.view_is in
    record {
      going = subst (λ (s : Cutting). Going s piece inside.names inside.lines piece) start
          (goes_first inside.names inside.lines inside.line piece c.self.invariant.0
          (c.has_room.ensures.0 c.if-not-has_room.false));
      line = ap (λ (s : Cutting). s.line) c.self.view_is;
      live = c.in_default.is;
    }

pub returns-in-Ok-None-clause-ok : goal.returns-in-Ok-None-clause-ok
returns-in-Ok-None-clause-ok c =
    let now = c.lines.self-inside in
    let live_start = ap (λ (s : Cutting). s.failed) (sym c.self.view_is) ∙ c.in_default.is in
    rw (
      live now.names c.next_line.new.self now.line now.failed c.lines.invariant.live,
      c.lines.invariant.line,
    )
    (keeps c.lines.invariant.going (rw c.in-Ok-None.field-0-is at c.in-Ok-None.ensures.none)
    c.in-Ok-None.ensures.unended live_start)

pub returns-in-Err-clause-fault : goal.returns-in-Err-clause-fault
returns-in-Err-clause-fault c =
    subst (λ (f : TextFault). FailsAt c.args.self.now c.args.piece.now f f.cause)
    (sym c.fail-in-Err.ensures.fault)
    (long_at (c.unfinished-line-in-Err.ensures ∙ ap (λ (s : Lines). s.unfinished) c.in-Err.ensures.err)
    c.lines.invariant.going c.in-Err.ensures.too_long)

pub returns-in-Err-line_event-clause-fault : goal.returns-in-Err-line_event-clause-fault
returns-in-Err-line_event-clause-fault c =
    let cut = rw c.in-Ok-Some.field-0-is at c.in-Ok-Some.ensures.line in
    subst (λ (f : TextFault). FailsAt c.args.self.now c.args.piece.now f f.cause)
    (sym c.fail-in-Err-line_event.ensures.fault)
    (fails_at c.in-Ok-Some.cut.0.number c.in-Err-line_event.cause
    (rw c.in-Ok-Some.field-0-is at c.in-Ok-Some.ensures.number) c.lines.invariant.going cut
    (rw c.line.ensures.bytes at c.in-Err-line_event.ensures.fault)
    (rw c.line.ensures.bytes at c.in-Err-line_event.ensures.memory))

pub lines-smaller : goal.lines-smaller
lines-smaller c = goes_down (rw c.in-Ok-Some.field-0-is at c.in-Ok-Some.ensures.line)

pub lines-preserved : goal.lines-preserved
lines-preserved c =
    let cut = rw c.in-Ok-Some.field-0-is at c.in-Ok-Some.ensures.line in
    record {
      going = goes_on c.lines.invariant.going cut
          (rw (c.line.ensures.bytes, c.in-Ok-None-line_event.field-0-is) at
          c.in-Ok-None-line_event.ensures.ok)
          c.line_event.ensures.grows;
      line = c.lines.invariant.line;
      live = c.lines.invariant.live;
    }

pub overflow_sub-result : goal.overflow_sub-result
overflow_sub-result c =
    let less = goes_down (rw c.in-Ok-Some.field-0-is at c.in-Ok-Some.ensures.line) in
    let all = ap (λ (t : List ℕ). length t) c.lines.invariant.going.is in
    let parts = length-append c.lines.invariant.going.front c.lines.rest.now in
    omega arith

pub returns-in-Ok-Some-line_event-clause-ok : goal.returns-in-Ok-Some-line_event-clause-ok
returns-in-Ok-Some-line_event-clause-ok c =
    let now = c.lines.self-inside in
    let live_start = ap (λ (s : Cutting). s.failed) (sym c.self.view_is) ∙ c.in_default.is in
    let cut = rw c.in-Ok-Some.field-0-is at c.in-Ok-Some.ensures.line in
    let number = rw c.in-Ok-Some.field-0-is at c.in-Ok-Some.ensures.number in
    let line = c.in-Ok-Some.cut.0.number in
    rw (live c.line_event.new.names c.next_line.new.self line now.failed c.lines.invariant.live, number)
    (gives c.lines.invariant.going cut
    (rw (c.line.ensures.bytes, c.in-Ok-Some-line_event.field-0-is) at c.in-Ok-Some-line_event.ensures.ok)
    c.line_event.ensures.grows live_start)

pub returns-in-Ok-Some-line_event-clause-grows : goal.returns-in-Ok-Some-line_event-clause-grows
returns-in-Ok-Some-line_event-clause-grows c =
    TablesGrow-trans _ _ _ c.lines.invariant.going.grows c.line_event.ensures.grows

pub returns-in-Err-line_event-clause-grows : goal.returns-in-Err-line_event-clause-grows
returns-in-Err-line_event-clause-grows c =
    TablesGrow-trans _ _ _ c.lines.invariant.going.grows c.line_event.ensures.grows
