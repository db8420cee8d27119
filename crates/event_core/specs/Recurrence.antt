-- The recurrence: what strictly precedes an event, from what strictly precedes the few events just below it.
--
-- It never looks forward, and at each event it opens only that event's own sections, so clocks can follow it.
-- That it gives exactly the strict relation is a law (`RecurrenceIsLeast`). The paper's algorithm computes
-- clocks by it; as a relation of its own it is this project's.
use Rattle.std.specs.Prelude.{ℕ, ◌<◌, List}
use Rattle.event_core.specs.declared.ids.ThreadId.{ThreadId}
use Rattle.event_core.specs.declared.ids.LockId.{LockId}
use Rattle.event_core.specs.declared.events.Event.{Event}
use Rattle.event_core.specs.declared.events.Op.TheVariants.{Fork, Join}
use Rattle.event_core.specs.Log.{Does, Of, OuterAcquire, OuterRelease, Section}
use Rattle.event_core.specs.Order.{Hb}
use Rattle.event_core.specs.Wcp.{Meets}

-- g is one of the events just below j
pub data Near (log : List Event) (g j : ℕ) : Type 0 where
  -- the event of j's thread before j
  previous : (u : ThreadId) → g < j → Of log g u → Of log j u → ((k : ℕ) → g < k → k < j → Of log k u → ⊥)
      → Near log g j
  -- the fork of j's thread, where j is its first event
  forked : (u v : ThreadId) → g < j → Does log g v (Fork u) → Of log j u → ((k : ℕ) → k < j → Of log k u → ⊥)
      → Near log g j
  -- the last event of the thread that j joins
  joined : (u w : ThreadId) → g < j → Of log g u → Does log j w (Join u)
      → ((k : ℕ) → g < k → k < j → Of log k u → ⊥) → Near log g j
  -- the fork of the thread that j joins
  joined_fork : (u v w : ThreadId) → g < j → Does log g v (Fork u) → Does log j w (Join u) → Near log g j
  -- the latest outer release of the lock of which j is an outer acquire
  released : (u v : ThreadId) (l : LockId) → g < j → OuterRelease log g u l → OuterAcquire log j v l
      → ((k : ℕ) (w : ThreadId) → g < k → k < j → OuterRelease log k w l → ⊥) → Near log g j

-- i is in the set that the recurrence gives j
pub data Pre (log : List Event) : ℕ → ℕ → Type 0 where
  -- it is in the set of an event just below j
  old : {i g j : ℕ} → Near log g j → Pre log i g → Pre log i j
  -- or j is an access, and i happens before a release that rule (a) puts before j
  access : {i r j : ℕ} → Hb log i r → Meets log r j → Pre log i j
  -- or j is an outer release, and i happens before the end of an earlier section on its lock whose acquire is
  -- in the set of an event just below j
  release : {i a r g j : ℕ} (u v : ThreadId) (l : LockId) → r < j → Section log u l a r
      → OuterRelease log j v l → Near log g j → Pre log a g → Hb log i r → Pre log i j
