use Rattle.std.proofs.Common.{◌≡◌, take}
use Rattle.std.specs.List.{flat_map}
use Rattle.rapid_text.specs.Pages.{Puts}
use Rattle.trace_report.proofs.listing.put_lines.Given as goal

abbrev pub invariant-loop-line : goal.invariant-loop-line
invariant-loop-line g l = record {
  lines : Puts (g.W.Output.written l.fn.writer) l.fn.page (g.W.Output.written l.writer) l.page
      (flat_map (g.L.Line.line l.names l.log.events) (take l.line-index l.shown));
  healthy : g.W.Output.failed l.writer ≡ g.W.Output.failed l.fn.writer;
}
