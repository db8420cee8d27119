-- What the order laws need of a log. Each well-formed log has it.
use Rattle.std.specs.Prelude.{◌≡◌, ℕ, ◌<◌, List}
use Rattle.std.proofs.Math.ListN.{take}
use Rattle.event_core.specs.declared.ids.ThreadId.{ThreadId}
use Rattle.event_core.specs.declared.ids.LockId.{LockId}
use Rattle.event_core.specs.declared.events.Event.{Event}
use Rattle.event_core.specs.declared.events.Op.TheVariants.{Release, Fork}
use Rattle.event_core.specs.Log.{Does, Of, depth}

pub record Orderly (log : List Event) : Type 0 where
  -- no two threads hold one lock
  pub one_holder : (k : ℕ) (u v : ThreadId) (l : LockId)
      → 0 < depth (take k log) u l → 0 < depth (take k log) v l → u ≡ v
  -- who releases a lock holds it
  pub held_at_release : (r : ℕ) (u : ThreadId) (l : LockId)
      → Does log r u (Release l) → 0 < depth (take r log) u l
  -- a fork of a thread is before all its events
  pub fork_first : (g k : ℕ) (u v : ThreadId) → Does log g v (Fork u) → Of log k u → g < k
