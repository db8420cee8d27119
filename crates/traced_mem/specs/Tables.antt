-- The tables of a memory, and what they mean.
use Rattle.std.specs.Prelude.{◌≡◌, ℕ, ◌+◌, ◌<◌, ◌≤◌, false, List, [], Some, None, length, nat_lt, slice_index}
use Rattle.std.specs.Prelude.{slice_index_or, if◌then◌else◌}
use Rattle.std.specs.List.{sum_by}
use Rattle.event_core.specs.declared.ids.ThreadId.{ThreadId}
use Rattle.event_core.specs.declared.ids.VarId.{VarId}
use Rattle.event_core.specs.declared.bounds.Limits.{Limits}
use Rattle.event_core.specs.declared.events.Op.{Op}
use Rattle.traced_mem.specs.declared.rows.ThreadRow.{ThreadRow}
use Rattle.traced_mem.specs.declared.rows.LockRow.{LockRow}
use Rattle.traced_mem.specs.Meaning.{Meaning, Thread, Lock}
use Rattle.traced_mem.specs.Refusals.{refusal_at, swap_refusal_at}

pub record MemoryTables : Type 0 where
  pub limits : Limits
  pub length : ℕ
  pub holds : ℕ
  pub threads : List ThreadRow
  pub locks : List LockRow
  pub cells : List ℕ
  -- for so many rows of threads and of locks, and for so many cells, there is memory
  pub thread_room : ℕ
  pub lock_room : ℕ
  pub room : ℕ

-- past a table's end nothing was done yet
abbrev pub blank_thread : ThreadRow
blank_thread = record {
  forked = false;
  joined = false;
  mentioned = false;
  held = record { items = []; capacity = 4 };
}

abbrev pub blank_lock : LockRow
blank_lock = record { by = record { 0 = 0 }; depth = 0 }

abbrev pub thread_at : List ThreadRow → ℕ → ThreadRow
thread_at rows u = slice_index_or rows u blank_thread

abbrev pub lock_at : List LockRow → ℕ → LockRow
lock_at rows l = slice_index_or rows l blank_lock

-- what a row means
abbrev pub thread_of : ThreadRow → Thread
thread_of r = record { forked = r.forked; joined = r.joined; mentioned = r.mentioned; held = r.held.items }

abbrev pub lock_of : LockRow → Lock
lock_of r = record { holder = (if nat_lt 0 r.depth then Some r.by else None); depth = r.depth }

-- what the tables mean
abbrev pub threads_of : List ThreadRow → ℕ → Thread
threads_of rows u = thread_of (thread_at rows u)

abbrev pub locks_of : List LockRow → ℕ → Lock
locks_of rows l = lock_of (lock_at rows l)

abbrev pub cells_of : List ℕ → ℕ → ℕ
cells_of rows x = slice_index rows x

abbrev pub meaning : MemoryTables → Meaning
meaning t = record {
  length = t.length;
  holds = t.holds;
  thread = threads_of t.threads;
  lock = locks_of t.locks;
  cell = cells_of t.cells;
}

-- the thread is not refused the operation
abbrev pub Allows : MemoryTables → ThreadId → Op → Type 0
Allows t u o = refusal_at t.limits (meaning t) u o ≡ None

-- the thread is not refused a swap of the variable
abbrev pub AllowsSwap : MemoryTables → ThreadId → VarId → Type 0
AllowsSwap t u x = swap_refusal_at t.limits (meaning t) u x ≡ None

-- how often all locks together are held
abbrev pub total : List LockRow → ℕ
total locks = sum_by (λ (r : LockRow). r.depth) locks

-- each holder's number is below n
abbrev pub HeldBelow : ℕ → List LockRow → Type 0
HeldBelow n locks = (l : ℕ) → 0 < (lock_at locks l).depth → (lock_at locks l).by.0 < n

-- what the fields of a memory keep: a slot of the log is free for each release that is due, and each holder
-- has a row
pub record AreTables (limits : Limits) (len holds : ℕ) (threads : List ThreadRow)
    (locks : List LockRow) : Type 0 where
  pub kept : len + holds ≤ limits.events
  pub sum : holds ≡ total locks
  pub held : HeldBelow (length threads) locks
