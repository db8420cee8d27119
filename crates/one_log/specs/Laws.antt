-- The laws of the one log.
use Rattle.std.specs.Prelude.{◌≡◌, ◌≤◌, List, [], ◌∷◌, ◌++◌, length}
use Rattle.std.specs.List.{flat_map, AllByRecursion}
use mathlib.Core.List.{IsPrefix}
use Rattle.atomic_table.specs.Table.{State}
use Rattle.event_core.specs.declared.ids.ThreadId.{ThreadId}
use Rattle.event_core.specs.declared.events.Event.{Event}
use Rattle.event_core.specs.declared.bounds.Limits.{Limits}
use Rattle.event_core.specs.declared.steps.Step.{Step}
use Rattle.event_core.specs.Refusal.{WellFormed}
use Rattle.event_core.specs.Steps.{log_of, Formed}
use Rattle.log_pass.specs.declared.views.PassView.{PassView}
use Rattle.log_pass.specs.declared.views.SeatView.{SeatView}
use Rattle.log_pass.specs.Kinds.{Met}
use Rattle.log_pass.specs.Passes.{IsPass}
use Rattle.log_pass.specs.Rule.{IsPublished}
use Rattle.log_pass.specs.Views.{claims_of}
use Rattle.live_monitor.specs.Rules.{HasOwn}
use Rattle.one_log.specs.Joined.{IsJoinedInto, IsJoinedIntoOne}
use Rattle.one_log.specs.OneLog.{StandsIn, StandsAmong, HavePlaces}

-- all passes at the table, and the keeper's lists there
abbrev pub passes_at : List SeatView → List PassView
passes_at = flat_map (λ (v : SeatView). v.passes)

abbrev pub lists_at : List SeatView → List (List Step)
lists_at = flat_map (λ (v : SeatView). v.kept)

-- one well-formed log in which these passes stand, and the accepted calls with their replies
pub record StandInOneLog (m : Limits) (passes : List PassView) : Type 0 where
  pub steps : List Step
  pub formed : Formed m steps
  pub stand : AllByRecursion (StandsAmong steps) passes
  pub replies : HavePlaces m (log_of steps)

-- Of the table in this state: its passes, and these that were joined into them, stand in one log. The keeper
-- alone has its list, the word is the number of its events, and no two passes share a thread.
pub record IsOneLog (m : Limits) (s : State (Unit {0}) SeatView) (joined : List PassView) : Type 0 where
  pub all : StandInOneLog m (passes_at s.views ++ joined)
  pub kept : lists_at s.views ≡ all.steps ∷ []
  pub word : s.words ≡ length (log_of all.steps) ∷ []
  pub apart : (t : ThreadId) → claims_of t (passes_at s.views) ≤ 1

-- the headline: under the rule of the published word all passes stand in one log
abbrev pub PassesStandInOneLog : Type 0
PassesStandInOneLog =
    (m : Limits) (s : State (Unit {0}) SeatView) (joined : List PassView) → IsPublished m s
    → AllByRecursion (IsJoinedIntoOne (passes_at s.views)) joined → IsOneLog m s joined

-- of the closed log: what close states of the closing pass holds of all that were joined into it
abbrev pub JoinedPassesStandInClosedLog : Type 0
JoinedPassesStandInClosedLog =
    (m : Limits) (log : List Event) (closing : PassView) (joined : List PassView) → WellFormed m log
    → IsPrefix (log_of closing.seen) log → HasOwn closing log
    → AllByRecursion (λ child. IsJoinedInto child closing) joined
    → AllByRecursion (StandsIn log) (closing ∷ joined) × HavePlaces m log

-- what meet states of two passes
abbrev pub Meet : Limits → PassView → PassView → Type 0
Meet m p q = (first : PassView) × (second : PassView) × Met m p q first second

-- any two of the passes meet
abbrev pub AllMeet : Limits → List PassView → Type 0
AllMeet m [] = Unit {0}
AllMeet m (p ∷ ps) = AllByRecursion (Meet m p) ps × AllMeet m ps

-- passes of which any two meet stand in one log
abbrev pub MetPassesStandInOneLog : Type 0
MetPassesStandInOneLog =
    (m : Limits) (passes : List PassView) → AllByRecursion (IsPass m) passes → AllMeet m passes
    → StandInOneLog m passes
