use Rattle.rapid_line.specs.Reading.{named_of}
use Rattle.rapid_text.proofs.NameGrowth.{named_event_is}
use Rattle.rapid_text.proofs.event_lines.line_event.Goals as goal

pub returns-clause-named : goal.returns-clause-named
returns-clause-named c =
    let n = named_event_is c.args.names.now
    (named_of c.in-Ok.named) c.in_ok-event.event c.number_line.new.names
    c.in_ok-event.ensures.ok in
    record { names = n.has; value = n.value }
