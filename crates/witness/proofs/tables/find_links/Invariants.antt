use Rattle.std.proofs.Common.{◌≡◌, ℕ, ◌<◌, length, None, Some, slice_index_or}
use Rattle.event_core.specs.declared.ids.ThreadId.{ThreadId}
use Rattle.event_core.specs.declared.ids.VarId.{VarId}
use Rattle.event_core.specs.declared.events.Op.TheVariants.{Load}
use Rattle.event_core.specs.Log.{Does}
use Rattle.witness.specs.Links.{back_at}
use Rattle.witness.specs.Indices.{below, last_store}
use Rattle.witness.proofs.tables.find_links.Given as goal

abbrev pub invariant-events : goal.invariant-events
invariant-events l = record {
  long : length l.links.items ≡ l.index;
  reads : (n : ℕ) → n < l.index → (u : ThreadId) (x : VarId) → Does l.log.events n u (Load x)
      → back_at l.links.items n ≡ last_store l.log.events x (below n);
  stores : (x : VarId)
      → slice_index_or l.stores.items x.0 None ≡ last_store l.log.events x (below l.index);
  early : (x : VarId) (s : ℕ) → slice_index_or l.stores.items x.0 None ≡ Some s → s < l.index;
}
