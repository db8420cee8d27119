use Rattle.std.proofs.Common.{◌≡◌, take}
use Rattle.rapid_text.specs.Pages.{Puts}
use Rattle.witness_report.specs.Lines.{lines_at}
use Rattle.witness_report.proofs.lines.put_lines.Given as goal

abbrev pub invariant-loop-index : goal.invariant-loop-index
invariant-loop-index g l = record {
  lines : Puts (g.W.Output.written l.fn.writer) l.fn.page (g.W.Output.written l.writer) l.page
      (lines_at l.names l.log.events (take l.index-index l.events));
  healthy : g.W.Output.failed l.writer ≡ g.W.Output.failed l.fn.writer;
}
