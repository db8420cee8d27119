-- Program order and happens-before.
--
-- The paper's program order is the order of each thread alone. The edges of forks and joins are this
-- project's own. Both relations are finite chains of edges, so they are reflexive and transitive, and each
-- edge goes forward in the log.
use Rattle.std.specs.Prelude.{ℕ, ◌<◌, List}
use Rattle.event_core.specs.declared.ids.ThreadId.{ThreadId}
use Rattle.event_core.specs.declared.ids.LockId.{LockId}
use Rattle.event_core.specs.declared.events.Event.{Event}
use Rattle.event_core.specs.declared.events.Op.TheVariants.{Fork, Join}
use Rattle.event_core.specs.Log.{Does, Of, OuterAcquire, OuterRelease}

-- j is reached from i by a finite chain of edges, none at all included
pub data Chain (Edge : ℕ → ℕ → Type 0) (i : ℕ) : ℕ → Type 0 where
  here : Chain Edge i i
  step : {g j : ℕ} → Chain Edge i g → Edge g j → Chain Edge i j

-- i and then j are events of one thread; or i forks j's thread; or i forks the thread that j joins; or i is
-- an event of the thread that j joins
pub data ProgramEdge (log : List Event) (i j : ℕ) : Type 0 where
  same_thread : (u : ThreadId) → i < j → Of log i u → Of log j u → ProgramEdge log i j
  fork_to_event : (u v : ThreadId) → i < j → Does log i v (Fork u) → Of log j u → ProgramEdge log i j
  fork_to_join : (u v w : ThreadId) → i < j → Does log i v (Fork u) → Does log j w (Join u)
      → ProgramEdge log i j
  event_to_join : (u w : ThreadId) → i < j → Of log i u → Does log j w (Join u) → ProgramEdge log i j

-- an edge of program order, or an outer release of a lock and a later outer acquire of it
pub data HbEdge (log : List Event) (i j : ℕ) : Type 0 where
  program : ProgramEdge log i j → HbEdge log i j
  lock : (u v : ThreadId) (l : LockId) → i < j → OuterRelease log i u l → OuterAcquire log j v l
      → HbEdge log i j

-- program order: a chain of its edges
abbrev pub Po : List Event → ℕ → ℕ → Type 0
Po log = Chain (ProgramEdge log)

-- happens-before: a chain of the edges of program order and of locks
abbrev pub Hb : List Event → ℕ → ℕ → Type 0
Hb log = Chain (HbEdge log)
