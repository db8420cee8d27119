-- What making room does to the parts of a monitor.
use Rattle.std.specs.Prelude.{◌≡◌, ℕ, ◌≤◌, List}
use Rattle.event_core.specs.declared.ids.ThreadId.{ThreadId}
use Rattle.event_core.specs.declared.ids.LockId.{LockId}
use Rattle.event_core.specs.declared.events.Event.{Event}
use Rattle.event_core.specs.declared.events.Op.{Op}
use Rattle.event_core.specs.declared.events.Op.TheVariants.{Release}
use Rattle.hb_clocks.specs.Standing.{IsHeldRelease}
use Rattle.traced_mem.specs.Tables.{meaning, Allows}
use Rattle.traced_mem.specs.Room.{IsReady as MemoryIsReady}
use Rattle.traced_mem.specs.Standing.{StandsFor}
use Rattle.access_check.specs.Tables.{Grown, IsReady as AccessHasRoom}
use Rattle.wcp_clocks.specs.Parts.{hb_of, SameNumbers, SameLimits, KeepsReady}
use Rattle.seq_monitor.specs.declared.parts.Parts.{Parts}

-- each part has as much room as before, or more, and all else is as it was
pub record HasGrown (old new : Parts) : Type 0 where
  pub memory : meaning new.memory ≡ meaning old.memory
  pub memory_limits : new.memory.limits ≡ old.memory.limits
  pub memory_stands : (past : List Event) → StandsFor past old.memory → StandsFor past new.memory
  pub memory_room : (t : ThreadId) (o : Op) → MemoryIsReady old.memory t o → MemoryIsReady new.memory t o
  pub numbers : SameNumbers old.clocks new.clocks
  pub clock_limits : SameLimits old.clocks new.clocks
  pub clock_room : KeepsReady old.clocks new.clocks
  pub accesses : Grown old.accesses new.accesses
  pub events : new.log.events ≡ old.log.events
  pub event_room : old.log.room ≤ new.log.room
  pub verdicts : new.verdicts.verdicts ≡ old.verdicts.verdicts
  pub verdict_room : old.verdicts.room ≤ new.verdicts.room

-- each part but the clocks has room for the thread's operation, and the lists for so many events
pub record HasOtherRoom (p : Parts) (t : ThreadId) (o : Op) (slots : ℕ) : Type 0 where
  pub memory : MemoryIsReady p.memory t o
  pub accesses : AccessHasRoom p.accesses t o
  pub events : slots ≤ p.log.room
  pub verdicts : slots ≤ p.verdicts.room

-- a release by a thread that holds the lock, for which the slots are kept
pub record IsKeptRelease (p : Parts) (t : ThreadId) (o : Op) (slots : ℕ) : Type 0 where
  pub lock : LockId
  pub is : o ≡ Release lock
  pub allowed : Allows p.memory t o
  pub held : IsHeldRelease (hb_of p.clocks) t o
  pub accesses : AccessHasRoom p.accesses t o
  pub events : slots ≤ p.log.room
  pub verdicts : slots ≤ p.verdicts.room
