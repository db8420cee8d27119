use Rattle.std.proofs.Common.{◌≡◌, take}
use Rattle.rapid_text.specs.Pages.{Puts}
use Rattle.closed_report.specs.Places.{place_lines}
use Rattle.closed_report.proofs.places.put_places.Given as goal

abbrev pub invariant-loop-place : goal.invariant-loop-place
invariant-loop-place g l = record {
  lines : Puts (g.W.Output.written l.fn.writer) l.fn.page (g.W.Output.written l.writer) l.page
      (place_lines l.names l.log.events (take l.place-index l.places));
  healthy : g.W.Output.failed l.writer ≡ g.W.Output.failed l.fn.writer;
}
