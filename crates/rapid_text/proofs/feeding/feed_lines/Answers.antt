use Rattle.std.proofs.Common.{ap, ◌∙◌}
use Rattle.rapid_line.specs.Lines.{Lines}
use Rattle.rapid_text.proofs.PushesProperties.{goes_down}
use Rattle.rapid_text.proofs.TakesProperties.{takes_none, takes_more, takes_line, takes_rest}
use Rattle.rapid_text.proofs.TakesProperties.{stops_at, stops_later, stops_long}
use Rattle.rapid_text.proofs.feeding.feed_lines.Goals as goal

pub lines-init : goal.lines-init
lines-init g c = takes_none g.S.LineSink.takes c.args.sink.now c.args.cutter.now c.args.piece.now

pub returns-in-Ok-None-clause-ok : goal.returns-in-Ok-None-clause-ok
returns-in-Ok-None-clause-ok g c =
    takes_more g.S.LineSink.takes c.lines.invariant
    (takes_rest g.S.LineSink.takes (rw c.in-Ok-None.field-0-is at c.in-Ok-None.ensures.none)
    c.in-Ok-None.ensures.unended c.in-Ok-None.ensures.kept)

pub returns-in-Err-clause-fault : goal.returns-in-Err-clause-fault
returns-in-Err-clause-fault g c =
    let number = c.unfinished.ensures ∙ ap (λ (s : Lines). s.unfinished) c.in-Err.ensures.err in
    stops_later g.S.LineSink.takes g.S.LineSink.stops c.lines.invariant
    (stops_long g.S.LineSink.takes g.S.LineSink.stops c.in-Err.ensures.too_long
    (rw number at c.too_long.ensures))

pub returns-in-Err-take-clause-fault : goal.returns-in-Err-take-clause-fault
returns-in-Err-take-clause-fault g c =
    let cut = rw c.in-Ok-Some.field-0-is at c.in-Ok-Some.ensures.line in
    let number = rw c.in-Ok-Some.field-0-is at c.in-Ok-Some.ensures.number in
    stops_later g.S.LineSink.takes g.S.LineSink.stops c.lines.invariant
    (stops_at g.S.LineSink.takes g.S.LineSink.stops cut
    (rw (c.line.ensures.bytes, number) at c.in-Err-take.ensures.stops))

pub lines-preserved : goal.lines-preserved
lines-preserved g c =
    let cut = rw c.in-Ok-Some.field-0-is at c.in-Ok-Some.ensures.line in
    let number = rw c.in-Ok-Some.field-0-is at c.in-Ok-Some.ensures.number in
    takes_more g.S.LineSink.takes c.lines.invariant
    (takes_line g.S.LineSink.takes cut (rw (c.line.ensures.bytes, number) at c.in_default.ensures.takes))

pub lines-smaller : goal.lines-smaller
lines-smaller g c = goes_down (rw c.in-Ok-Some.field-0-is at c.in-Ok-Some.ensures.line)
