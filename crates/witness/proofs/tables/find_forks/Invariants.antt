use Rattle.std.proofs.Common.{◌≡◌, ℕ, ◌<◌, Some, None, slice_index_or}
use Rattle.event_core.specs.declared.ids.ThreadId.{ThreadId}
use Rattle.event_core.specs.declared.events.Op.TheVariants.{Fork}
use Rattle.event_core.specs.Log.{Does}
use Rattle.witness.proofs.tables.find_forks.Given as goal

abbrev pub invariant-events : goal.invariant-events
invariant-events l =
    (n : ℕ) → n < l.index → (v u : ThreadId) → Does l.log.events n v (Fork u)
    → slice_index_or l.forks.items u.0 None ≡ Some n
