-- How many joins of clocks the events of a log take at most.
use Rattle.std.specs.Prelude.{ℕ, ◌+◌, ◌*◌, List, [], ◌∷◌, ◌++◌, cond, nat_lt}
use Rattle.event_core.specs.declared.ids.ThreadId.{ThreadId}
use Rattle.event_core.specs.declared.ids.LockId.{LockId}
use Rattle.event_core.specs.declared.events.Event.{Event}
use Rattle.event_core.specs.declared.events.Op.{Op}
use Rattle.event_core.specs.declared.events.Op.TheVariants.{Load, Store}
use Rattle.event_core.specs.declared.bounds.Limits.{Limits}
use Rattle.event_core.specs.Log.{depth}
use Rattle.event_core.specs.Refusal.{sum_locks}

-- 1 where the thread holds the lock after the log, else 0
abbrev pub holds_one : List Event → ThreadId → LockId → ℕ
holds_one log t l = cond (nat_lt 0 (depth log t l)) 1 0

-- how many locks the thread holds after the log
abbrev pub locks_held : Limits → List Event → ThreadId → ℕ
locks_held m log t = sum_locks (holds_one log t) m.locks

-- two for each lock that is held at an access, and three at any other event
abbrev pub joins_at : Op → ℕ → ℕ
joins_at (Load x) held = 2 * held
joins_at (Store x) held = 2 * held
joins_at _ held = 3

-- their sum over the events that come after those of the past
abbrev pub joins_from : Limits → List Event → List Event → ℕ
joins_from m past [] = 0
joins_from m past (e ∷ es) =
    joins_at e.op (locks_held m past e.thread) + joins_from m (past ++ e ∷ []) es

-- their sum over all events of the log
abbrev pub joins_of : Limits → List Event → ℕ
joins_of m log = joins_from m [] log
