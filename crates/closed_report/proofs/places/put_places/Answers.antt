use Rattle.std.proofs.Common.{ap, ◌∙◌}
use Rattle.std.proofs.lemmas.List.{take_all}
use Rattle.std.proofs.lemmas.Option.{slice_get-get_or}
use Rattle.rapid_text.proofs.PutsProperties.{put_both, put_same}
use Rattle.trace_report.proofs.Races.{lines_at}
use Rattle.closed_report.specs.Places.{place_line, place_lines}
use Rattle.closed_report.proofs.PlaceLines.{first_within}
use Rattle.closed_report.proofs.places.put_places.Goals as goal

pub put_place-requires : goal.put_place-requires
put_place-requires g c =
    let within = first_within c.loop-place.place-index c.requires.places
    (slice_get-get_or c.args.places.now c.loop-place.place-index _ c.loop-place-test.true) in
    record { within = within.0; earlier = within.1; named = c.requires.named }

pub loop-place-preserved : goal.loop-place-preserved
loop-place-preserved g c = record {
  lines = put_same
      (lines_at (place_line c.args.names.now c.args.log.now.events) c.args.places.now
      c.loop-place.place-index _ c.loop-place-test.true)
      (put_both c.loop-place.invariant.lines c.in_ok-put_place.ensures.ok);
  healthy = c.in_ok-put_place.ensures.healthy ∙ c.loop-place.invariant.healthy;
}

pub returns-clause-ok : goal.returns-clause-ok
returns-clause-ok g c =
    put_same
    (ap (place_lines c.args.names.now c.args.log.now.events)
    (take_all c.loop-place.place-index c.args.places.now c.loop-place-test.false))
    c.loop-place.invariant.lines
