-- The laws of summaries that stand for a log.
use Rattle.std.specs.Prelude.{ℕ, List, [], ◌∷◌, ◌++◌}
use Rattle.event_core.specs.declared.ids.ThreadId.{ThreadId}
use Rattle.event_core.specs.declared.ids.LockId.{LockId}
use Rattle.event_core.specs.declared.events.Event.{Event}
use Rattle.event_core.specs.declared.bounds.Limits.{Limits}
use Rattle.event_core.specs.Refusal.{WellFormed}
use Rattle.event_core.specs.Rows.{Counted}
use Rattle.section_sum.specs.Sums.{Sums, IsAlone}
use Rattle.section_sum.specs.Standing.{StandsFor, AreHeld, IsOther}
use Rattle.section_sum.specs.Paired.{AreSources, AreReleaseClocks, IsBelowPaired, joined}

-- an event that is no access and ends no section leaves the summaries as they are
abbrev pub OthersLeaveThem : Type 0
OthersLeaveThem = (limits : Limits) (log : List Event) (e : Event) (s : Sums)
    → WellFormed limits (log ++ e ∷ []) → IsOther log e → StandsFor log s → StandsFor (log ++ e ∷ []) s

-- no other thread has an open section on a lock that the thread holds
abbrev pub HoldersAreAlone : Type 0
HoldersAreAlone = (limits : Limits) (log : List Event) (s : Sums) (t : ThreadId) (held : List LockId)
    → WellFormed limits log → AreHeld log t held → StandsFor log s → IsAlone s t.0 held

-- whatever clocks the releases have, those of the sources count together what happens before the releases
-- that rule (a) pairs with the access
abbrev pub SourcesCount : Type 0
SourcesCount = (limits : Limits) (log : List Event) (e : Event) (l : LockId) (numbers : List ℕ)
    (clocks : ℕ → ℕ → ℕ)
    → WellFormed limits (log ++ e ∷ []) → AreSources log e l numbers → AreReleaseClocks log l clocks
    → Counted log (IsBelowPaired log e l) (joined clocks numbers)
