-- What making room does to the parts.
use Rattle.std.specs.Prelude.{◌≡◌, ℕ, List, Bool, false, ◌&&◌, nat_eq, IsTrue}
use Rattle.event_core.specs.declared.ids.ThreadId.{ThreadId}
use Rattle.event_core.specs.declared.ids.LockId.{LockId}
use Rattle.event_core.specs.declared.events.Op.{Op}
use Rattle.event_core.specs.declared.events.Op.TheVariants.{Load, Store, Acquire}
use Rattle.hb_clocks.specs.Tables.{ClockTables, state_of as order_of, KeepsRoom as KeepsOrder}
use Rattle.hb_clocks.specs.Tables.{GrownFor as OrderGrownFor, SameMemory as SameOrderMemory}
use Rattle.section_sum.specs.Sums.{Sums, SameNoted, SameOthers, KeepsReady as KeepsSums, is_held}
use Rattle.section_sum.specs.Sums.{is_ready as has_cell, LocksGrownFor, SameMemory as SameSumsMemory}
use Rattle.lock_queues.specs.Queues.{AllQueues as Queues, GrownFor as QueuesGrownFor, SameMeaning, is_ready}
use Rattle.lock_queues.specs.Queues.{SamePlaces as SameQueuePlaces}
use Rattle.event_core.specs.Effect.{Effect, Closes}
use Rattle.wcp_clocks.specs.Parts.{Parts, AreOrdered, IsRelease}
use Rattle.wcp_clocks.specs.HeldLists.{HeldList, HaveGrownFor, list_at, held_of, KeepsPlaces, SamePlaces}
use Rattle.wcp_clocks.specs.StrictRows.{StrictTables, SameClocks, KeepsRoom, SameRoom}
use Rattle.wcp_clocks.specs.StrictRows.{GrownFor as RowsGrownFor}

-- the clocks have as much room as before, or more, and their numbers are as they were
pub record ClocksHaveGrown (old new : ClockTables) (was is : StrictTables) : Type 0 where
  pub order : order_of new ≡ order_of old
  pub width : new.width ≡ old.width
  pub order_room : KeepsOrder old new
  pub rows : SameClocks was is
  pub rows_room : KeepsRoom was is
  pub ordered : AreOrdered was old → AreOrdered is new

-- so has each other part
pub record SumsHaveGrown (old new : Sums) : Type 0 where
  pub noted : SameNoted old new
  pub others : SameOthers old new
  pub room : KeepsSums old new

pub record QueuesHaveGrown (old new : Queues) : Type 0 where
  pub same : SameMeaning old new
  pub room : (t l : ℕ) → IsTrue (is_ready old t l) → IsTrue (is_ready new t l)

pub record HoldsHaveGrown (old new : List HeldList) : Type 0 where
  pub same : held_of new ≡ held_of old
  pub room : KeepsPlaces old new

-- and all parts together
pub record HasGrown (old new : Parts) : Type 0 where
  pub clocks : ClocksHaveGrown old.hb new.hb old.rows new.rows
  pub sums : SumsHaveGrown old.sums new.sums
  pub queues : QueuesHaveGrown old.queues new.queues
  pub held : HoldsHaveGrown old.held new.held
  pub work : new.work ≡ old.work

-- the operation is an access to the variable
abbrev pub is_access_to : Op → ℕ → Bool
is_access_to (Load y) x = nat_eq x y.0
is_access_to (Store y) x = nat_eq x y.0
is_access_to _ x = false

-- room was made for the operation's access alone, under the locks
abbrev pub AccessesGrownFor : Sums → Sums → List LockId → Op → Type 0
AccessesGrownFor old new locks op = (l x : ℕ) → (is_held locks l && is_access_to op x) ≡ false
    → has_cell new l x ≡ has_cell old l x

-- the queues of sections have grown for the acquire alone
abbrev pub SectionsGrownFor : Queues → Queues → ThreadId → Op → Type 0
SectionsGrownFor old new t (Acquire l) = QueuesGrownFor old new t.0 l.0
SectionsGrownFor old new t _ = new ≡ old

-- so have the lists of held locks
abbrev pub HoldsGrownFor : List HeldList → List HeldList → ThreadId → Op → Type 0
HoldsGrownFor old new t (Acquire l) = HaveGrownFor old new t.0
HoldsGrownFor old new t _ = new ≡ old

-- room was made for the operation alone: its access, under the locks that its thread holds, or its section
pub record GrownFor (old new : Parts) (t : ThreadId) (op : Op) : Type 0 where
  pub accesses : AccessesGrownFor old.sums new.sums (list_at old.held t.0).locks op
  pub locks : LocksGrownFor old.sums new.sums (list_at old.held t.0).locks
  pub sections : SectionsGrownFor old.queues new.queues t op
  pub holds : HoldsGrownFor old.held new.held t op

-- no clock was made except for the operation
pub record MadeFor (old new : Parts) (t : ThreadId) (op : Op) : Type 0 where
  pub order : OrderGrownFor old.hb new.hb t op
  pub rows : RowsGrownFor old.rows new.rows t op

-- the event closes a section
abbrev pub IsClosing : Effect → Type 0
IsClosing (Closes l) = Unit {0}
IsClosing _ = ⊥

-- each part has the memory that it had. Of the list of the releases' numbers nothing is said where one may
-- join it
pub record KeepsMemory (Joins : Type 0) (old new : Parts) : Type 0 where
  pub order : SameOrderMemory old.hb new.hb
  pub rows : SameRoom old.rows new.rows
  pub sums : SameSumsMemory old.sums new.sums
  pub queues : SameQueuePlaces old.queues new.queues
  pub numbers : (Joins → ⊥) → new.queues.number_room ≡ old.queues.number_room
  pub held : SamePlaces old.held new.held

abbrev pub SameMemory : Parts → Parts → Op → Type 0
SameMemory old new op = KeepsMemory (IsRelease op) old new

-- room was made for the operation alone, and then its event took no more
pub record TakenFor (old new : Parts) (t : ThreadId) (op : Op) : Type 0 where
  pub ready : Parts
  pub grown : GrownFor old ready t op
  pub made : MadeFor old ready t op
  pub memory : SameMemory ready new op
