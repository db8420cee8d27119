-- When the summaries stand for a log, and the events by which they go on.
use Rattle.std.specs.Prelude.{ℕ, ◌≡◌, ◌<◌, ◌≤◌, ◌↔◌, List, IsTrue}
use Rattle.event_core.specs.declared.ids.ThreadId.{ThreadId}
use Rattle.event_core.specs.declared.ids.LockId.{LockId}
use Rattle.event_core.specs.declared.ids.VarId.{VarId}
use Rattle.event_core.specs.declared.events.Event.{Event}
use Rattle.event_core.specs.declared.events.AccessKind.{AccessKind}
use Rattle.event_core.specs.Log.{depth}
use Rattle.event_core.specs.Effect.{access_of}
use Rattle.event_core.specs.Closed.{EndsSection, Noted, OtherSection, number_of}
use Rattle.section_sum.specs.Sums.{Sums, noted_of, others_of, is_held}

-- the number is that of the newest section on the lock by another thread than t that has such an access, and
-- 0 where there is none
pub record IsNewest (log : List Event) (l : LockId) (x : VarId) (k : AccessKind) (t : ThreadId) (number : ℕ)
    : Type 0 where
  pub some : 0 < number → (r : ℕ) × OtherSection log l x k t r × (number_of log l r ≡ number)
  pub newest : (r : ℕ) → OtherSection log l x k t r → number_of log l r ≤ number

-- each access in an open section is noted, and to each thread the newest of the others' closed sections with
-- an access is named
pub record StandsFor (log : List Event) (s : Sums) : Type 0 where
  pub noted : (t : ThreadId) (l : LockId) (x : VarId) (k : AccessKind)
      → IsTrue (noted_of s t.0 l.0 x.0 k) ↔ Noted log t l x k
  pub others : (l : LockId) (x : VarId) (k : AccessKind) (t : ThreadId)
      → IsNewest log l x k t (others_of s l.0 x.0 k t.0)

-- the event is such an access of the thread
pub record IsAccessBy (t : ThreadId) (x : VarId) (k : AccessKind) (e : Event) : Type 0 where
  pub thread : e.thread ≡ t
  pub op : e.op ≡ access_of x k

-- the list has the locks that the thread holds
abbrev pub AreHeld : List Event → ThreadId → List LockId → Type 0
AreHeld log t held = (l : LockId) → IsTrue (is_held held l.0) ↔ (0 < depth log t l)

-- the event is no access, and ends no section
pub record IsOther (log : List Event) (e : Event) : Type 0 where
  pub access : (x : VarId) (k : AccessKind) → e.op ≡ access_of x k → ⊥
  pub ends : (l : LockId) → EndsSection log e.thread l e → ⊥
