-- What a walk over some events of a log stands for.
use Rattle.std.specs.Prelude.{◌≡◌, ℕ, List, None, slice_index, slice_index_or}
use Rattle.event_core.specs.declared.ids.VarId.{VarId}
use Rattle.event_core.specs.declared.events.Event.{Event}
use Rattle.traced_mem.specs.Standing.{StandsFor}
use Rattle.witness.specs.declared.walk.Walk.{Walk}
use Rattle.witness.specs.Indices.{events_at, last_store}
use Rattle.witness.specs.Walks.{IsCount}

-- the walk has come over these
pub record IsWalk (log : List Event) (before : List ℕ) (w : Walk) : Type 0 where
  pub count : IsCount log before (slice_index w.counts.items)
  pub stores : (x : VarId) → slice_index_or w.stores.items x.0 None ≡ last_store log x before
  pub stands : StandsFor (events_at log before) w.memory
