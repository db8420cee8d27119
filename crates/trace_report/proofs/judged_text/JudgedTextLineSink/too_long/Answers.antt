use Rattle.trace_report.proofs.JudgesProperties.{long_stops}
use Rattle.trace_report.proofs.judged_text.JudgedTextLineSink.too_long.Goals as goal

pub returns : goal.returns
returns g c = long_stops c.args.self.now.names c.args.number
