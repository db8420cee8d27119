-- The laws of counted sets, by which every clock takes its steps, and what is below a new event.
use Rattle.std.specs.Prelude.{[], ◌∷◌, ◌≡◌, ℕ, ◌+◌, ◌<◌, ◌↔◌, ◌⊎◌, max, cond, nat_eq, List, ◌++◌, length}
use Rattle.event_core.specs.declared.ids.ThreadId.{ThreadId}
use Rattle.event_core.specs.declared.events.Event.{Event}
use Rattle.event_core.specs.declared.bounds.Limits.{Limits}
use Rattle.event_core.specs.Log.{Of}
use Rattle.event_core.specs.Order.{Hb}
use Rattle.event_core.specs.Wcp.{Strict}
use Rattle.event_core.specs.Refusal.{WellFormed}
use Rattle.event_core.specs.Count.{events_of, Counts}
use Rattle.event_core.specs.Newest.{HbNew, StrictNew}

-- a set has one count
abbrev pub CountIsUnique : (ℕ → Type 0) → Type 0
CountIsUnique P = (log : List Event) (u : ThreadId) (m n : ℕ) → Counts log u P m → Counts log u P n → m ≡ n

-- join is union: the greater of the counts of two sets counts both together
abbrev pub JoinIsUnion : (ℕ → Type 0) → (ℕ → Type 0) → Type 0
JoinIsUnion P Q =
    (log : List Event) (u : ThreadId) (m n : ℕ)
    → Counts log u P m → Counts log u Q n → Counts log u (λ i. P i ⊎ Q i) (max m n)

-- a new event adds one to its own thread's count of a set that has all of the thread's events, and nothing to
-- the others'
abbrev pub NewEventAddsOne : (ℕ → Type 0) → Type 0
NewEventAddsOne P =
    (log : List Event) (e : Event) (u : ThreadId) (n : ℕ)
    → Counts log u P n → (e.thread ≡ u → n ≡ events_of log u)
    → Counts (log ++ e ∷ []) u (λ i. P i ⊎ (i ≡ length log)) (n + cond (nat_eq e.thread.0 u.0) 1 0)

-- a longer log changes no count of a set of the events before
abbrev pub LongerLogKeepsCounts : (ℕ → Type 0) → Type 0
LongerLogKeepsCounts P =
    (log more : List Event) (u : ThreadId) (n : ℕ)
    → Counts log u P n → Counts (log ++ more) u (λ i. P i × (i < length log)) n

-- sets with the same events of a thread have the same counts of it
abbrev pub EqualSetsHaveEqualCounts : (ℕ → Type 0) → (ℕ → Type 0) → Type 0
EqualSetsHaveEqualCounts P Q =
    (log : List Event) (u : ThreadId) (n : ℕ)
    → ((i : ℕ) → Of log i u → P i ↔ Q i) → Counts log u P n ↔ Counts log u Q n

-- what happens before a new event, in the sets of the log before it
abbrev pub HbOfNewEvent : Type 0
HbOfNewEvent = (log : List Event) (e : Event) (i : ℕ) → Hb (log ++ e ∷ []) i (length log) ↔ HbNew log e i

-- what strictly precedes a new event, in the sets of the log before it
abbrev pub StrictOfNewEvent : Type 0
StrictOfNewEvent =
    (m : Limits) (log : List Event) (e : Event) (i : ℕ) → WellFormed m (log ++ e ∷ [])
    → Strict (log ++ e ∷ []) i (length log) ↔ StrictNew log e i
