-- The tables of clocks: what they mean, and the room in them.
use Rattle.std.specs.Prelude.{◌≡◌, ℕ, ◌+◌, ◌*◌, ◌<◌, ◌≤◌, ◌⊎◌, List, [], length, max, replicate}
use Rattle.event_core.specs.declared.ids.ThreadId.{ThreadId}
use Rattle.event_core.specs.declared.events.Op.{Op}
use Rattle.event_core.specs.declared.events.Op.TheVariants.{Acquire, Release, Fork, Join}
use Rattle.event_core.specs.Rows.{Rows}
use Rattle.hb_clocks.specs.Rows.{rows_of, widths_of, IsMade, AreWide}
use Rattle.hb_clocks.specs.State.{HbState}
use Rattle.hb_clocks.specs.Holds.{depths_of, HasHold}
use Rattle.hb_clocks.specs.declared.holds.Hold.{Hold}

-- the clocks of threads and of locks, none of numbers where none was made, and who holds each lock
pub record ClockTables : Type 0 where
  pub width : ℕ
  pub po : List (List ℕ)
  pub hb : List (List ℕ)
  pub lock : List (List ℕ)
  pub holds : List Hold
  -- for so many rows of threads, and of locks, there is memory
  pub thread_room : ℕ
  pub lock_room : ℕ

-- those of the empty log
abbrev pub no_tables : ℕ → ClockTables
no_tables width = record {
  width = width;
  po = [];
  hb = [];
  lock = [];
  holds = [];
  thread_room = 0;
  lock_room = 0;
}

abbrev pub hb_rows : List (List ℕ) → List (List ℕ) → Rows
hb_rows hb lock = record { thread = rows_of hb; lock = rows_of lock }

abbrev pub state_from : List (List ℕ) → List (List ℕ) → List (List ℕ) → List Hold → HbState
state_from po hb lock holds = record {
  po = rows_of po;
  hb = hb_rows hb lock;
  depth = depths_of holds;
}

-- what the tables mean
abbrev pub state_of : ClockTables → HbState
state_of t = state_from t.po t.hb t.lock t.holds

-- the thread is below the width, and both of its clocks were made
pub record HasThread (width : ℕ) (po hb : List (List ℕ)) (t : ℕ) : Type 0 where
  pub within : t < width
  pub po_made : IsMade width po t
  pub hb_made : IsMade width hb t

-- the clocks that the operation names were made
abbrev pub HasClocks : ℕ → List (List ℕ) → List (List ℕ) → List (List ℕ) → Op → Type 0
HasClocks w po hb lock (Fork u) = HasThread w po hb u.0
HasClocks w po hb lock (Join u) = HasThread w po hb u.0
HasClocks w po hb lock (Acquire l) = IsMade w lock l.0
HasClocks w po hb lock (Release l) = IsMade w lock l.0
HasClocks w po hb lock _ = Unit {0}

-- there is room for the thread's operation
pub record IsReady (c : ClockTables) (t : ThreadId) (op : Op) : Type 0 where
  pub thread : HasThread c.width c.po c.hb t.0
  pub clocks : HasClocks c.width c.po c.hb c.lock op
  pub hold : HasHold (length c.holds) op

-- what was ready stays so
abbrev pub KeepsRoom : ClockTables → ClockTables → Type 0
KeepsRoom old new = (t : ThreadId) (op : Op) → IsReady old t op → IsReady new t op

-- the operation names the thread, or the lock
abbrev pub IsThreadOf : Op → ℕ → Type 0
IsThreadOf (Fork v) u = u ≡ v.0
IsThreadOf (Join v) u = u ≡ v.0
IsThreadOf _ u = ⊥

abbrev pub IsLockOf : Op → ℕ → Type 0
IsLockOf (Acquire m) l = l ≡ m.0
IsLockOf (Release m) l = l ≡ m.0
IsLockOf _ l = ⊥

-- the thread is the operation's, or named by it
abbrev pub IsThreadFor : ThreadId → Op → ℕ → Type 0
IsThreadFor t op u = (u ≡ t.0) ⊎ IsThreadOf op u

-- how many rows the operation needs in a table of threads, and in one of locks
abbrev pub named_threads : Op → ℕ
named_threads (Fork v) = v.0 + 1
named_threads (Join v) = v.0 + 1
named_threads _ = 0

abbrev pub threads_for : ThreadId → Op → ℕ
threads_for t op = max (t.0 + 1) (named_threads op)

abbrev pub locks_for : Op → ℕ
locks_for (Acquire l) = l.0 + 1
locks_for (Release l) = l.0 + 1
locks_for _ = 0

-- the table has not grown beyond so many rows, and no clock was made but of those that are named
pub record HasGrown (rows : ℕ) (IsNamed : ℕ → Type 0) (old new : List (List ℕ)) : Type 0 where
  pub most : length new ≤ max (length old) rows
  pub others : (u : ℕ) → (IsNamed u → ⊥) → widths_of new u ≡ widths_of old u

-- no table has grown beyond the numbers that the operation names, clocks were made of these alone, and none
-- has memory for more than twice as many rows, or had it before
pub record GrownFor (old new : ClockTables) (t : ThreadId) (op : Op) : Type 0 where
  pub po : HasGrown (threads_for t op) (IsThreadFor t op) old.po new.po
  pub hb : HasGrown (threads_for t op) (IsThreadFor t op) old.hb new.hb
  pub lock : HasGrown (locks_for op) (IsLockOf op) old.lock new.lock
  pub holds : length new.holds ≤ max (length old.holds) (locks_for op)
  pub thread_room : new.thread_room ≤ max old.thread_room (2 * threads_for t op)
  pub lock_room : new.lock_room ≤ max old.lock_room (2 * locks_for op)

-- the table has a row for each that it had, with a clock of the same width
pub record SameRows (old new : List (List ℕ)) : Type 0 where
  pub count : length new ≡ length old
  pub widths : widths_of new ≡ widths_of old

-- each table has the clocks and the memory that it had
pub record SameMemory (old new : ClockTables) : Type 0 where
  pub po : SameRows old.po new.po
  pub hb : SameRows old.hb new.hb
  pub lock : SameRows old.lock new.lock
  pub holds : length new.holds ≡ length old.holds
  pub thread_room : new.thread_room ≡ old.thread_room
  pub lock_room : new.lock_room ≡ old.lock_room

-- the threads that are named are below the width
abbrev pub NamesWithin : ℕ → Op → Type 0
NamesWithin w (Fork u) = u.0 < w
NamesWithin w (Join u) = u.0 < w
NamesWithin w _ = Unit {0}

abbrev pub IsWithin : ℕ → ThreadId → Op → Type 0
IsWithin w t op = (t.0 < w) × NamesWithin w op

-- what the fields keep
pub record AreTables (width : ℕ) (zeros : List ℕ) (po hb lock : List (List ℕ)) : Type 0 where
  pub some : 0 < width
  pub only_zeros : zeros ≡ replicate width 0
  pub po_wide : AreWide width po
  pub hb_wide : AreWide width hb
  pub lock_wide : AreWide width lock
