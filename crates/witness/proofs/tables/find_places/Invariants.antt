use Rattle.std.proofs.Common.{◌≡◌, ℕ, ◌<◌, length, slice_index, take}
use Rattle.event_core.specs.declared.ids.ThreadId.{ThreadId}
use Rattle.event_core.specs.Log.{Of}
use Rattle.event_core.specs.Count.{events_of}
use Rattle.witness.proofs.tables.find_places.Given as goal

abbrev pub invariant-events : goal.invariant-events
invariant-events l = record {
  long : length l.places.items ≡ l.index;
  places : (n : ℕ) → n < l.index → (u : ThreadId) → Of l.log.events n u
      → slice_index l.places.items n ≡ events_of (take n l.log.events) u;
  counts : (u : ThreadId) → slice_index l.counts.items u.0 ≡ events_of (take l.index l.log.events) u;
}
