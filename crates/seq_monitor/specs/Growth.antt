-- How far the parts of a monitor grow for an operation, and that it is performed in the memory that there is.
use Rattle.std.specs.Prelude.{◌≡◌, ℕ, ◌+◌, ◌*◌, ◌≤◌, length, max}
use Rattle.event_core.specs.declared.ids.ThreadId.{ThreadId}
use Rattle.event_core.specs.declared.ids.VarId.{VarId}
use Rattle.event_core.specs.declared.events.Call.{Call}
use Rattle.event_core.specs.declared.events.Op.{Op}
use Rattle.event_core.specs.declared.events.Op.TheVariants.{Load, Store}
use Rattle.event_core.specs.Refusal.{open_acquires}
use Rattle.traced_mem.specs.Room.{GrownFor as MemoryGrownFor, SameMemory as InMemory}
use Rattle.access_check.specs.Tables.{GrownFor as AccessesGrownFor, SameMemory as InAccesses}
use Rattle.wcp_clocks.specs.Growth.{GrownFor as ClocksGrownFor, MadeFor, TakenFor as ClocksTakenFor}
use Rattle.wcp_clocks.specs.Growth.{SameMemory as InClocks}
use Rattle.verdict_list.specs.Judged.{races_from}
use Rattle.seq_monitor.specs.declared.parts.Parts.{Parts}
use Rattle.seq_monitor.specs.Monitored.{Monitored, slots_for}

-- no table has grown but for the thread's operation, and the lists have memory for at most twice the events,
-- and twice the races, that so many slots add to those there are; or they had it before
pub record TablesGrownFor (old new : Parts) (t : ThreadId) (o : Op) (slots : ℕ) : Type 0 where
  pub memory : MemoryGrownFor old.memory new.memory t o
  pub accesses : AccessesGrownFor old.accesses new.accesses t o
  pub events : new.log.reserved ≤ max old.log.reserved (2 * (length old.log.events + slots))
  pub verdicts : new.verdicts.reserved
      ≤ max old.verdicts.reserved (2 * (length (races_from 0 old.verdicts.verdicts) + slots))

-- and neither have the clocks
pub record GrownFor (old new : Parts) (t : ThreadId) (o : Op) (slots : ℕ) : Type 0 where
  pub tables : TablesGrownFor old new t o slots
  pub clocks : ClocksGrownFor old.clocks new.clocks t o
  pub made : MadeFor old.clocks new.clocks t o

-- no part has taken memory but for the thread's operation and so many slots
pub record TakenFor (old new : Parts) (t : ThreadId) (o : Op) (slots : ℕ) : Type 0 where
  pub tables : TablesGrownFor old new t o slots
  pub clocks : ClocksTakenFor old.clocks new.clocks t o

-- each table has the memory that it had
pub record SameMemory (old new : Parts) (o : Op) : Type 0 where
  pub memory : InMemory old.memory new.memory o
  pub clocks : InClocks old.clocks new.clocks o
  pub accesses : InAccesses old.accesses new.accesses o
  pub events : new.log.reserved ≡ old.log.reserved
  pub verdicts : new.verdicts.reserved ≡ old.verdicts.reserved

-- the monitor has grown for the call alone
abbrev pub GrowsFor : Call → Monitored → Monitored → Type 0
GrowsFor c old new =
    GrownFor old.parts new.parts c.thread c.op (slots_for (open_acquires old.log) c.op)

-- it has taken memory for the call alone
abbrev pub TakesFor : Call → Monitored → Monitored → Type 0
TakesFor c old new =
    TakenFor old.parts new.parts c.thread c.op (slots_for (open_acquires old.log) c.op)

-- room was made for the load of a swap, and memory was taken for its store alone
pub record TakesForSwap (t : ThreadId) (x : VarId) (old new : Monitored) : Type 0 where
  pub ready : Parts
  pub load : GrownFor old.parts ready t (Load x) (open_acquires old.log + 2)
  pub store : TakenFor ready new.parts t (Store x) (open_acquires old.log + 2)

-- the call took no memory
abbrev pub TakesNoMemory : Call → Monitored → Monitored → Type 0
TakesNoMemory c old new = SameMemory old.parts new.parts c.op
