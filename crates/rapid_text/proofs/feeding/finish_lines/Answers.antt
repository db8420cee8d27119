use Rattle.rapid_text.proofs.TakesProperties.{ends_line, ends_none, stops_last}
use Rattle.rapid_text.proofs.feeding.finish_lines.Goals as goal

pub returns-in_default-clause-ok : goal.returns-in_default-clause-ok
returns-in_default-clause-ok g c =
    ends_none g.S.LineSink.takes c.args.sink.now c.args.cutter.now
    (c.last_line.ensures.none c.in_default.is).0

pub returns-clause-ok : goal.returns-clause-ok
returns-clause-ok g c =
    ends_line g.S.LineSink.takes c.in-Some.ensures.line
    (rw (c.line.ensures.bytes, c.in-Some.ensures.number) at c.in_default-take.ensures.takes)

pub returns-in-Err-clause-fault : goal.returns-in-Err-clause-fault
returns-in-Err-clause-fault g c =
    stops_last g.S.LineSink.takes g.S.LineSink.stops c.in-Some.ensures.line
    (rw (c.line.ensures.bytes, c.in-Some.ensures.number) at c.in-Err.ensures.stops)
