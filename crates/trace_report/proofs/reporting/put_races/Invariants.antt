use Rattle.std.proofs.Common.{◌≡◌, take}
use Rattle.rapid_text.specs.Pages.{Puts}
use Rattle.trace_report.proofs.Races.{lines_of}
use Rattle.trace_report.proofs.reporting.put_races.Given as goal

abbrev pub invariant-loop-race : goal.invariant-loop-race
invariant-loop-race g l = record {
  lines : Puts (g.W.Output.written l.fn.writer) l.fn.page (g.W.Output.written l.writer) l.page
      (lines_of l.names l.log.events (take l.race-index l.race-items));
  healthy : g.W.Output.failed l.writer ≡ g.W.Output.failed l.fn.writer;
}
