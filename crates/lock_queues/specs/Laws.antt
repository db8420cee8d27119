-- The laws of queues that stand for a log.
use Rattle.std.specs.Prelude.{ℕ, ◌<◌, ◌≤◌, List, [], ◌∷◌, ◌++◌, length}
use Rattle.event_core.specs.declared.ids.ThreadId.{ThreadId}
use Rattle.event_core.specs.declared.ids.LockId.{LockId}
use Rattle.event_core.specs.declared.events.Event.{Event}
use Rattle.event_core.specs.declared.bounds.Limits.{Limits}
use Rattle.event_core.specs.Log.{depth}
use Rattle.event_core.specs.Order.{Hb}
use Rattle.event_core.specs.Wcp.{Strict}
use Rattle.event_core.specs.Refusal.{WellFormed}
use Rattle.event_core.specs.Count.{Past}
use Rattle.event_core.specs.Rows.{Counted}
use Rattle.event_core.specs.Closed.{EndsSection, number_counted}
use Rattle.lock_queues.specs.Queues.{AllQueues, closed_of, opened_of, found_of, SameMeaning}
use Rattle.lock_queues.specs.Searched.{CoversEarlier, IsAboveAll, FindsCounted}
use Rattle.lock_queues.specs.Standing.{StandsFor, IsOther}

-- queues that hold the same stand for the same log
abbrev pub SameStand : Type 0
SameStand = (log : List Event) (old new : AllQueues) → SameMeaning old new → StandsFor log old
    → StandsFor log new

-- an event that neither opens nor ends a section leaves the queues as they are
abbrev pub OthersLeaveThem : Type 0
OthersLeaveThem = (limits : Limits) (log : List Event) (e : Event) (v : AllQueues)
    → WellFormed limits (log ++ e ∷ []) → IsOther log e → StandsFor log v → StandsFor (log ++ e ∷ []) v

-- a thread that holds a lock has entered its section
abbrev pub HoldersHaveEntered : Type 0
HoldersHaveEntered = (log : List Event) (v : AllQueues) (t : ThreadId) (l : LockId)
    → 0 < depth log t l → StandsFor log v → 0 < opened_of v t.0 l.0

-- the clock that counts what strictly precedes a thread's events counts what the thread has found, and with a
-- section the earlier ones on its lock
abbrev pub StrictClocksMayAsk : Type 0
StrictClocksMayAsk = (limits : Limits) (log : List Event) (v : AllQueues) (t : ThreadId) (l : LockId)
    (c : ℕ → ℕ)
    → WellFormed limits log → Counted log (Past log (Strict log) t) c → StandsFor log v
    → (found_of v l.0 t.0 ≤ number_counted c (closed_of v l.0)) × CoversEarlier c (closed_of v l.0)

-- and what is found by it keeps the meaning
abbrev pub FindingKeepsThem : Type 0
FindingKeepsThem = (limits : Limits) (log : List Event) (old new : AllQueues) (t : ThreadId) (l : LockId)
    (c : ℕ → ℕ) → WellFormed limits log → Counted log (Past log (Strict log) t) c → 0 < depth log t l
    → FindsCounted old new t.0 l.0 (number_counted c (closed_of old l.0)) → StandsFor log old
    → StandsFor log new

-- the clock of a release is at or above those of the sections on its lock
abbrev pub ReleasesAreAbove : Type 0
ReleasesAreAbove = (limits : Limits) (log : List Event) (e : Event) (v : AllQueues) (l : LockId) (c : ℕ → ℕ)
    → WellFormed limits (log ++ e ∷ []) → EndsSection log e.thread l e
    → Counted (log ++ e ∷ []) (λ i. Hb (log ++ e ∷ []) i (length log)) c → StandsFor log v
    → IsAboveAll c (closed_of v l.0)
