-- The races that the lines of places name.
use Rattle.std.proofs.Common.{◌≡◌, ℕ, ◌<◌, List, Some, length, sym, ◌∙◌}
use Rattle.std.specs.Prelude.{slice_get}
use Rattle.std.proofs.lemmas.List.Folds.{find_at}
use Rattle.event_core.specs.declared.events.Event.{Event}
use Rattle.trace_report.proofs.Races.{races_within}
use Rattle.trace_report.proofs.TellsTextProperties.{verdicts_within}
use Rattle.closed_report.specs.declared.places.PlaceRaces.{PlaceRaces}
use Rattle.closed_report.specs.Places.{is_at, ArePlaces}

-- the first race of a place is between events of the log
pub first_within : {log : List Event} {found : List PlaceRaces} (k : ℕ) {q : PlaceRaces} → ArePlaces log found
    → slice_get found k ≡ Some q → (q.first.event < length log) × (q.first.with < length log)
first_within {log} k {q = q} are at =
    races_within _ (verdicts_within log are.are.verdicts are.are.judged) are.are.all
    (sym (find_at (is_at log q.place) are.races) ∙ (are.by_place.each k q at).first)
