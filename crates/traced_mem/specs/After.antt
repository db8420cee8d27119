-- What an accepted operation makes of a memory's meaning, and the value of its event.
use Rattle.std.specs.Prelude.{ℕ, ◌+◌, ◌-◌, ◌==◌, cond, true, List, [], ◌∷◌, ◌++◌, Option, Some, None, nat_eq}
use Rattle.std.specs.Prelude.{nat_lt, if◌then◌else◌}
use Rattle.std.specs.List.{remove, position}
use Rattle.event_core.specs.declared.ids.ThreadId.{ThreadId}
use Rattle.event_core.specs.declared.ids.LockId.{LockId}
use Rattle.event_core.specs.declared.events.Op.{Op}
use Rattle.event_core.specs.declared.events.Op.TheVariants.{Load, Store, Acquire, Release, Fork, Join}
use Rattle.traced_mem.specs.Meaning.{Meaning, Thread, Lock}

-- f, with x at k
abbrev pub updated : {A : Type 0} → ℕ → A → (ℕ → A) → ℕ → A
updated k x f a = cond (a == k) x (f a)

-- the value of the operation's event: `arg` is that of a store
abbrev pub value_at : Meaning → Op → ℕ → ℕ
value_at m (Load x) arg = m.cell x.0
value_at m (Store x) arg = arg
value_at m _ arg = 0

-- the list without the first such lock
abbrev pub without_at : Option ℕ → List LockId → List LockId
without_at None held = held
without_at (Some i) held = remove held i

abbrev pub without : LockId → List LockId → List LockId
without l held = without_at (position (λ (h : LockId). nat_eq h.0 l.0) held) held

-- a thread that has to do with one more event
abbrev pub mentioned_again : Thread → Thread
mentioned_again t = record t { mentioned = true }

abbrev pub now_forked : Thread → Thread
now_forked t = record t { forked = true; mentioned = true }

abbrev pub now_joined : Thread → Thread
now_joined t = record t { joined = true; mentioned = true }

-- an outer acquire adds the lock to the thread's, and an outer release takes it away
abbrev pub gains : LockId → ℕ → Thread → Thread
gains l before t = record t { held = (if nat_eq before 0 then t.held ++ l ∷ [] else t.held) }

abbrev pub loses : LockId → ℕ → Thread → Thread
loses l left t = record t { held = (if nat_eq left 0 then without l t.held else t.held) }

abbrev pub threads_after : ThreadId → Op → (ℕ → Lock) → (ℕ → Thread) → ℕ → Thread
threads_after u (Acquire l) locks f = updated u.0 (gains l (locks l.0).depth (f u.0)) f
threads_after u (Release l) locks f = updated u.0 (loses l ((locks l.0).depth - 1) (f u.0)) f
threads_after u (Fork v) locks f = updated v.0 (now_forked (f v.0)) f
threads_after u (Join v) locks f = updated v.0 (now_joined (f v.0)) f
threads_after u _ locks f = f

-- a lock that is acquired, or released, once more
abbrev pub deeper : ThreadId → Lock → Lock
deeper u k = record { holder = Some u; depth = k.depth + 1 }

abbrev pub shallower : Lock → Lock
shallower k = record { holder = (if nat_lt 0 (k.depth - 1) then k.holder else None); depth = k.depth - 1 }

abbrev pub locks_after : ThreadId → Op → (ℕ → Lock) → ℕ → Lock
locks_after u (Acquire l) f = updated l.0 (deeper u (f l.0)) f
locks_after u (Release l) f = updated l.0 (shallower (f l.0)) f
locks_after u _ f = f

abbrev pub cells_after : Op → ℕ → (ℕ → ℕ) → ℕ → ℕ
cells_after (Store x) arg f = updated x.0 arg f
cells_after _ arg f = f

abbrev pub holds_after : Op → ℕ → ℕ
holds_after (Acquire l) n = n + 1
holds_after (Release l) n = n - 1
holds_after _ n = n

-- the meaning after the thread's operation: `arg` is the value of a store
abbrev pub after : ThreadId → Op → ℕ → Meaning → Meaning
after u o arg m = record {
  length = m.length + 1;
  holds = holds_after o m.holds;
  thread = threads_after u o m.lock (updated u.0 (mentioned_again (m.thread u.0)) m.thread);
  lock = locks_after u o m.lock;
  cell = cells_after o arg m.cell;
}
