-- How much work the events of a log take at most.
use Rattle.std.specs.Prelude.{◌≡◌, ◌+◌, ◌*◌, ◌≤◌, List, [], ◌∷◌, ◌++◌, length}
use Rattle.event_core.specs.declared.events.Event.{Event}
use Rattle.event_core.specs.declared.bounds.Limits.{Limits}
use Rattle.event_core.specs.Refusal.{WellFormed}
use Rattle.wcp_laws.specs.Step.{effect}
use Rattle.wcp_laws.specs.Conditions.{found_at}
use Rattle.wcp_laws.specs.Found.{total_found, threads_in}
use Rattle.wcp_clocks.specs.Parts.{Parts}
use Rattle.wcp_clocks.specs.Parts.{state_of, work_of, found_in, most_joins, FewComparisons, SameNumbers}
use Rattle.wcp_clocks.specs.Standing.{StandsFor, HasLittleWork, IsBounded}

-- each event took two joins for each lock at most, or three; and each comparison found a closed section for
-- a thread, or was the last one of its event
pub record WorkWithin (limits : Limits) (log : List Event) (p : Parts) : Type 0 where
  pub joins : (work_of p).joins ≤ length log * (2 * limits.locks + 3)
  pub comparisons : (work_of p).comparisons
      ≤ total_found limits.locks limits.threads (found_in p) + length log

-- what the event found, and the work that it took at most
pub record IsWorkOf (e : Event) (old new : Parts) : Type 0 where
  pub found : found_in new ≡ found_at e.thread (effect e (state_of old)) (state_of old) (found_in old)
  pub joins : (work_of new).joins ≤ (work_of old).joins
      + most_joins (effect e (state_of old)) (length ((state_of old).held e.thread.0))
  pub comparisons : FewComparisons e.thread (effect e (state_of old)) old new

-- no work is within the bounds of the empty log
abbrev pub NoWork : Type 0
NoWork = (limits : Limits) (p : Parts) → work_of p ≡ record { comparisons = 0; joins = 0 }
    → WorkWithin limits [] p

-- and the same work is within the same bounds
abbrev pub SameWork : Type 0
SameWork = (limits : Limits) (log : List Event) (old new : Parts) → SameNumbers old new
    → WorkWithin limits log old → WorkWithin limits log new

-- a legal event keeps the work within those bounds
abbrev pub WorkStep : Type 0
WorkStep = (limits : Limits) (log : List Event) (e : Event) (old new : Parts)
    → WellFormed limits (log ++ e ∷ []) → StandsFor log old → WorkWithin limits log old
    → IsWorkOf e old new → WorkWithin limits (log ++ e ∷ []) new

-- within those bounds there is little work at each legal event
abbrev pub LittleWork : Type 0
LittleWork = (limits : Limits) (log : List Event) (e : Event) (p : Parts)
    → IsBounded limits → WellFormed limits (log ++ e ∷ []) → StandsFor log p → WorkWithin limits log p
    → HasLittleWork e p

-- n events by k threads make at most n * k + n comparisons
abbrev pub FewComparisonsInAll : Type 0
FewComparisonsInAll = (limits : Limits) (log : List Event) (p : Parts)
    → StandsFor log p → WorkWithin limits log p
    → (work_of p).comparisons ≤ length log * threads_in limits.threads log + length log
