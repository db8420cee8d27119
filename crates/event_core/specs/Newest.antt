-- What is below a new event, in terms of the sets of the log before it. Clocks keep those sets.
use Rattle.std.specs.Prelude.{◌≡◌, ℕ, List, [], ◌∷◌, ◌++◌, length}
use Rattle.event_core.specs.declared.ids.ThreadId.{ThreadId}
use Rattle.event_core.specs.declared.ids.LockId.{LockId}
use Rattle.event_core.specs.declared.events.Event.{Event}
use Rattle.event_core.specs.declared.events.Op.TheVariants.{Acquire, Release, Join}
use Rattle.event_core.specs.Log.{depth, Section}
use Rattle.event_core.specs.Order.{Hb}
use Rattle.event_core.specs.Wcp.{Meets, Strict}
use Rattle.event_core.specs.Count.{Past, LockPast}

-- i happens before the event e, once e has been added to the log
pub data HbNew (log : List Event) (e : Event) (i : ℕ) : Type 0 where
  -- it is e
  itself : i ≡ length log → HbNew log e i
  -- it happens before an event of e's thread, or a fork of that thread
  by_thread : Past log (Hb log) e.thread i → HbNew log e i
  -- e is a join, and i happens before an event or a fork of the joined thread
  by_join : (u : ThreadId) → e.op ≡ Join u → Past log (Hb log) u i → HbNew log e i
  -- e is an outer acquire, and i happens before an outer release of its lock
  by_lock : (l : LockId) → e.op ≡ Acquire l → depth log e.thread l ≡ 0 → LockPast log (Hb log) l i
      → HbNew log e i

-- i strictly precedes the event e, once e has been added to the log
pub data StrictNew (log : List Event) (e : Event) (i : ℕ) : Type 0 where
  -- it strictly precedes an event of e's thread, or a fork of that thread
  from_thread : Past log (Strict log) e.thread i → StrictNew log e i
  -- e is a join, and i strictly precedes an event or a fork of the joined thread
  from_join : (u : ThreadId) → e.op ≡ Join u → Past log (Strict log) u i → StrictNew log e i
  -- e is an outer acquire, and i strictly precedes an outer release of its lock
  from_lock : (l : LockId) → e.op ≡ Acquire l → depth log e.thread l ≡ 0 → LockPast log (Strict log) l i
      → StrictNew log e i
  -- e is an access, and i happens before a release that rule (a) puts before e
  from_access : (r : ℕ) → Meets (log ++ e ∷ []) r (length log) → Hb log i r → StrictNew log e i
  -- e is an outer release, and i happens before the end of a section on its lock whose acquire strictly
  -- precedes an event of e's thread or a fork of that thread
  from_release : (u : ThreadId) (l : LockId) (a r : ℕ) → e.op ≡ Release l → depth log e.thread l ≡ 1
      → Section log u l a r → Past log (Strict log) e.thread a → Hb log i r → StrictNew log e i
