-- What contracts see of a monitor: its log, and the parts in which there is room.
use Rattle.std.specs.Prelude.{◌≡◌, ℕ, ◌+◌, ◌*◌, ◌≤◌, List, Some, None, length, slice_get}
use Rattle.event_core.specs.declared.ids.ThreadId.{ThreadId}
use Rattle.event_core.specs.declared.ids.VarId.{VarId}
use Rattle.event_core.specs.declared.events.Event.{Event}
use Rattle.event_core.specs.declared.events.Call.{Call}
use Rattle.event_core.specs.declared.events.Op.{Op}
use Rattle.event_core.specs.declared.events.Op.TheVariants.{Load, Store, Acquire, Release}
use Rattle.event_core.specs.declared.bounds.Limits.{Limits}
use Rattle.event_core.specs.Bounds.{AreBounded}
use Rattle.event_core.specs.declared.replies.Verdict.{Verdict}
use Rattle.event_core.specs.Refusal.{refusal, open_acquires}
use Rattle.event_core.specs.Verdict.{IsVerdict}
use Rattle.traced_mem.specs.Room.{IsReady as MemoryIsReady}
use Rattle.traced_mem.specs.Standing.{StandsFor}
use Rattle.access_check.specs.Tables.{IsReady as AccessHasRoom}
use Rattle.access_check.specs.Standing.{StandsFor as AccessesStand}
use Rattle.wcp_laws.specs.Found.{threads_in}
use Rattle.wcp_clocks.specs.Parts.{Parts as Clocks, width_of, limits_of, work_of, IsReady as ClocksIsReady}
use Rattle.wcp_clocks.specs.Standing.{StandsFor as ClocksStandFor}
use Rattle.wcp_clocks.specs.WorkWithin.{WorkWithin}
use Rattle.seq_monitor.specs.Joins.{joins_of}
use Rattle.seq_monitor.specs.declared.parts.Parts.{Parts}

pub record Monitored : Type 0 where
  pub limits : Limits
  pub log : List Event
  pub parts : Parts

-- what contracts see of a monitor with these limits and parts
abbrev pub monitored : Limits → Parts → Monitored
monitored limits parts = record { limits = limits; log = parts.log.events; parts = parts }

-- the limits and the log are the same, and so is all that they determine; and the clocks did no work
pub record IsSame (old new : Monitored) : Type 0 where
  pub limits : new.limits ≡ old.limits
  pub log : new.log ≡ old.log
  pub work : work_of new.parts.clocks ≡ work_of old.parts.clocks

-- the slots that are taken where an event follows so many acquires that are not yet released: its own, and
-- one for each release that is still to come
abbrev pub slots_for : ℕ → Op → ℕ
slots_for open' (Acquire l) = open' + 2
slots_for open' (Release l) = open'
slots_for open' o = open' + 1

-- each part has room for the thread's operation, and the lists for so many events
pub record HasRoomFor (p : Parts) (t : ThreadId) (o : Op) (slots : ℕ) : Type 0 where
  pub memory : MemoryIsReady p.memory t o
  pub clocks : ClocksIsReady p.clocks t o
  pub accesses : AccessHasRoom p.accesses t o
  pub events : slots ≤ p.log.room
  pub verdicts : slots ≤ p.verdicts.room

-- there is room for the thread's operation
abbrev pub HasRoom : Monitored → ThreadId → Op → Type 0
HasRoom m t o = HasRoomFor m.parts t o (slots_for (open_acquires m.log) o)

-- there is room for both events of a swap
pub record HasRoomToSwap (m : Monitored) (t : ThreadId) (x : VarId) : Type 0 where
  pub load : HasRoomFor m.parts t (Load x) (open_acquires m.log + 2)
  pub store : HasRoomFor m.parts t (Store x) (open_acquires m.log + 2)

-- the call is refused, or there is room for it
abbrev pub IsReady : Monitored → Call → Type 0
IsReady m c = refusal m.limits m.log c ≡ None → HasRoom m c.thread c.op

-- what there was room for, there still is room for
abbrev pub KeepsRoom : Parts → Parts → Type 0
KeepsRoom old new =
    (t : ThreadId) (o : Op) (slots : ℕ) → HasRoomFor old t o slots → HasRoomFor new t o slots

-- what was ready stays so
abbrev pub KeepsReady : Monitored → Monitored → Type 0
KeepsReady old new = (c : Call) → IsReady old c → IsReady new c

-- each verdict is that on its event
pub record AreVerdicts (log : List Event) (verdicts : List Verdict) : Type 0 where
  pub all : length verdicts ≡ length log
  pub each : (j : ℕ) (v : Verdict) → slice_get verdicts j ≡ Some v → IsVerdict log j v

-- the clocks stand for the log, and their work is within its bounds
pub record IsClocksReplay (limits : Limits) (log : List Event) (clocks : Clocks) : Type 0 where
  pub stands : ClocksStandFor log clocks
  pub width : width_of clocks ≡ limits.threads
  pub limits_of : limits_of clocks ≡ limits
  pub work : WorkWithin limits log clocks
  pub joins : (work_of clocks).joins ≤ joins_of limits log

-- the parts stand for their log, which is well formed, and the slots of all releases to come are kept
pub record IsReplay (limits : Limits) (p : Parts) : Type 0 where
  pub bounds : AreBounded limits.threads limits.locks limits.vars limits.events
  pub memory : StandsFor p.log.events p.memory
  pub memory_limits : p.memory.limits ≡ limits
  pub clocks : IsClocksReplay limits p.log.events p.clocks
  pub accesses : AccessesStand p.log.events p.accesses
  pub access_limits : p.accesses.limits ≡ limits
  pub judged : AreVerdicts p.log.events p.verdicts.verdicts
  pub event_slots : open_acquires p.log.events ≤ p.log.room
  pub verdict_slots : open_acquires p.log.events ≤ p.verdicts.room

-- the work of the clocks. The n events of the log, by k threads, took at most n * k + n comparisons of an
-- acquire with a clock. Each of them took at most three joins of clocks, or where it is an access at most two
-- for each lock that its thread held.
pub record HasBoundedWork (m : Monitored) : Type 0 where
  pub comparisons : (work_of m.parts.clocks).comparisons
      ≤ length m.log * threads_in m.limits.threads m.log + length m.log
  pub joins : (work_of m.parts.clocks).joins ≤ joins_of m.limits m.log
