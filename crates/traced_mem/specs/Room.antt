-- The room in a memory's tables.
use Rattle.std.specs.Prelude.{◌≡◌, ℕ, ◌+◌, ◌*◌, ◌^◌, ◌<◌, ◌≤◌, Bool, false, List, length, max, nat_eq, cond}
use Rattle.smallvec.specs.SmallVec.{HasRoomFor}
use Rattle.event_core.specs.declared.ids.ThreadId.{ThreadId}
use Rattle.event_core.specs.declared.events.Event.{Event}
use Rattle.event_core.specs.declared.events.Op.{Op}
use Rattle.event_core.specs.declared.events.Op.TheVariants.{Load, Store, Acquire, Release, Fork, Join}
use Rattle.traced_mem.specs.declared.rows.ThreadRow.{ThreadRow}
use Rattle.traced_mem.specs.declared.rows.LockRow.{LockRow}
use Rattle.traced_mem.specs.Tables.{MemoryTables, thread_at, lock_at, threads_of}

-- there are rows for what the operation names, or memory for its cell, and place for a lock that is acquired
abbrev pub HasRoom : List ThreadRow → ℕ → ℕ → ThreadId → Op → Type 0
HasRoom threads locks cells u (Load x) = Unit {0}
HasRoom threads locks cells u (Store x) = x.0 < cells
HasRoom threads locks cells u (Acquire l) = (l.0 < locks) × HasRoomFor (thread_at threads u.0).held 1
HasRoom threads locks cells u (Release l) = l.0 < locks
HasRoom threads locks cells u (Fork v) = v.0 < length threads
HasRoom threads locks cells u (Join v) = v.0 < length threads

-- there is room for the thread's operation
pub record IsReady (t : MemoryTables) (u : ThreadId) (o : Op) : Type 0 where
  pub caller : u.0 < length t.threads
  pub room : HasRoom t.threads (length t.locks) t.room u o

-- there is room for both events of a swap
abbrev pub IsReadyToSwap : MemoryTables → Event → Event → Type 0
IsReadyToSwap t load store = IsReady t load.thread load.op × IsReady t store.thread store.op

-- an acquire may use up the place that was made for another one by its thread
abbrev pub takes_place : ThreadId → Op → ThreadId → Op → Bool
takes_place u (Acquire l) v (Acquire m) = nat_eq u.0 v.0
takes_place u _ v _ = false

-- how many rows the operation needs in each table
abbrev pub threads_for : ThreadId → Op → ℕ
threads_for u (Fork v) = max (u.0 + 1) (v.0 + 1)
threads_for u (Join v) = max (u.0 + 1) (v.0 + 1)
threads_for u _ = u.0 + 1

abbrev pub locks_for : Op → ℕ
locks_for (Acquire l) = l.0 + 1
locks_for (Release l) = l.0 + 1
locks_for _ = 0

abbrev pub cells_for : Op → ℕ
cells_for (Store x) = x.0 + 1
cells_for _ = 0

-- how many places in the list of the locks that v holds, which has so many
abbrev pub places_for : ThreadId → Op → ℕ → ℕ → ℕ
places_for u (Acquire l) v held = cond (nat_eq u.0 v) (held + 1) 0
places_for u _ v held = 0

-- no list of held locks has memory for more than twice what the operation needs, or had it before
abbrev pub HeldFor : List ThreadRow → List ThreadRow → ThreadId → Op → Type 0
HeldFor old new u o = (v : ℕ) → (thread_at new v).held.capacity
    ≤ max (thread_at old v).held.capacity (2 * places_for u o v (length (thread_at old v).held.items))

-- no table has grown beyond the numbers that the operation names, and none has memory for more than twice as
-- many, or had it before
pub record GrownFor (old new : MemoryTables) (u : ThreadId) (o : Op) : Type 0 where
  pub threads : length new.threads ≤ max (length old.threads) (threads_for u o)
  pub locks : length new.locks ≤ max (length old.locks) (locks_for o)
  pub cells : length new.cells ≤ max (length old.cells) (cells_for o)
  pub thread_room : new.thread_room ≤ max old.thread_room (2 * threads_for u o)
  pub lock_room : new.lock_room ≤ max old.lock_room (2 * locks_for o)
  pub cell_room : new.room ≤ max old.room (2 * cells_for o)
  pub held : HeldFor old.threads new.threads u o

-- each table has the rows and the memory that it had; the list of cells may reach up to the operation's
pub record SameMemory (old new : MemoryTables) (o : Op) : Type 0 where
  pub threads : length new.threads ≡ length old.threads
  pub locks : length new.locks ≡ length old.locks
  pub cells : length new.cells ≤ max (length old.cells) (cells_for o)
  pub thread_room : new.thread_room ≡ old.thread_room
  pub lock_room : new.lock_room ≡ old.lock_room
  pub cell_room : new.room ≡ old.room
  pub held : (v : ℕ) → (thread_at new.threads v).held.capacity ≡ (thread_at old.threads v).held.capacity

-- more room, and the same meaning
pub record Grown (old new : List ThreadRow) : Type 0 where
  pub rows : threads_of new ≡ threads_of old
  pub more : length old ≤ length new
  pub capacity : (u : ℕ) → (thread_at old u).held.capacity ≤ (thread_at new u).held.capacity

-- the depth that the operation changes stays a number
abbrev pub DepthFits : List LockRow → Op → Type 0
DepthFits locks (Acquire l) = (lock_at locks l.0).depth + 1 < 2 ^ 32
DepthFits locks (Release l) = 0 < (lock_at locks l.0).depth
DepthFits locks _ = Unit {0}

-- so does the number of holds
abbrev pub HoldsFit : ℕ → Op → Type 0
HoldsFit holds (Acquire l) = holds + 1 < 2 ^ 64
HoldsFit holds (Release l) = 0 < holds
HoldsFit holds _ = Unit {0}
