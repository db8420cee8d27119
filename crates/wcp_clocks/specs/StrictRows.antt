-- The tables of strict clocks: what they mean, and the room in them.
use Rattle.std.specs.Prelude.{◌≡◌, ℕ, ◌*◌, ◌<◌, ◌≤◌, List, max, replicate}
use Rattle.event_core.specs.declared.ids.ThreadId.{ThreadId}
use Rattle.event_core.specs.declared.events.Op.{Op}
use Rattle.event_core.specs.declared.events.Op.TheVariants.{Acquire, Release, Fork, Join}
use Rattle.event_core.specs.Rows.{Rows}
use Rattle.hb_clocks.specs.Rows.{rows_of, widths_of, IsMade, AreWide}
use Rattle.hb_clocks.specs.Tables.{IsThreadFor, IsLockOf, threads_for, locks_for}

-- a clock for each thread and one for each lock; none of numbers where none was made
pub record StrictTables : Type 0 where
  pub width : ℕ
  pub thread : List (List ℕ)
  pub lock : List (List ℕ)
  -- for so many rows of threads and of locks there is memory
  pub thread_room : ℕ
  pub lock_room : ℕ

-- what the tables mean: zeros where there is no clock
abbrev pub strict_of : StrictTables → Rows
strict_of c = record { thread = rows_of c.thread; lock = rows_of c.lock }

-- the clock of the thread was made
pub record HasThread (c : StrictTables) (t : ℕ) : Type 0 where
  pub made : IsMade c.width c.thread t

-- the clock of the lock was made
pub record HasLock (c : StrictTables) (l : ℕ) : Type 0 where
  pub made : IsMade c.width c.lock l

-- the lock or the thread that the operation names has its clock
abbrev pub HasNamed : StrictTables → Op → Type 0
HasNamed c (Acquire l) = HasLock c l.0
HasNamed c (Release l) = HasLock c l.0
HasNamed c (Fork u) = HasThread c u.0
HasNamed c (Join u) = HasThread c u.0
HasNamed c _ = Unit {0}

-- and so has the operation's thread
pub record IsReady (c : StrictTables) (t : ThreadId) (op : Op) : Type 0 where
  pub thread : HasThread c t.0
  pub named : HasNamed c op

-- no clock was made but of these threads and these locks, and no table has memory for more than twice so many
-- rows, or had it before
pub record HasMade (Thread Lock : ℕ → Type 0) (threads locks : ℕ) (old new : StrictTables) : Type 0 where
  pub thread : (u : ℕ) → (Thread u → ⊥) → HasThread new u → HasThread old u
  pub lock : (l : ℕ) → (Lock l → ⊥) → HasLock new l → HasLock old l
  pub thread_room : new.thread_room ≤ max old.thread_room (2 * threads)
  pub lock_room : new.lock_room ≤ max old.lock_room (2 * locks)

-- none but of the threads and the lock that the operation names
abbrev pub GrownFor : StrictTables → StrictTables → ThreadId → Op → Type 0
GrownFor old new t op = HasMade (IsThreadFor t op) (IsLockOf op) (threads_for t op) (locks_for op) old new

-- what had room has room, in clocks of the same width
pub record KeepsRoom (old new : StrictTables) : Type 0 where
  pub width : new.width ≡ old.width
  pub thread : (t : ℕ) → HasThread old t → HasThread new t
  pub lock : (l : ℕ) → HasLock old l → HasLock new l

-- there is room where there was, and nowhere else: each clock is as wide as it was, and there is memory for
-- as many
pub record SameRoom (old new : StrictTables) : Type 0 where
  pub width : new.width ≡ old.width
  pub thread : widths_of new.thread ≡ widths_of old.thread
  pub lock : widths_of new.lock ≡ widths_of old.lock
  pub thread_room : new.thread_room ≡ old.thread_room
  pub lock_room : new.lock_room ≡ old.lock_room

-- there may be other room, and all else is as it was
pub record SameClocks (old new : StrictTables) : Type 0 where
  pub strict : strict_of new ≡ strict_of old

-- what the fields keep
pub record AreTables (width : ℕ) (zeros : List ℕ) (thread lock : List (List ℕ)) : Type 0 where
  pub some : 0 < width
  pub only_zeros : zeros ≡ replicate width 0
  pub thread_wide : AreWide width thread
  pub lock_wide : AreWide width lock
