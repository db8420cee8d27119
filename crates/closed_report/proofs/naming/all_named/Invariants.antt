use Rattle.std.proofs.Common.{◌≡◌, ℕ, ◌-◌, ◌<◌, length, Some}
use Rattle.std.specs.Prelude.{slice_get}
use Rattle.event_core.specs.declared.events.Event.{Event}
use Rattle.rapid_text.specs.Events.{HasNames}
use Rattle.closed_report.proofs.naming.all_named.Given as goal

abbrev pub invariant-events : goal.invariant-events
invariant-events l = (j : ℕ) (e : Event) → j < l.index → slice_get l.log.events j ≡ Some e
    → HasNames l.names e

abbrev pub decreases-events : goal.decreases-events
decreases-events l = length l.log.events - l.index
