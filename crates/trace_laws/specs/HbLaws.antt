-- What weak causal precedence and its races are to happens-before.
use Rattle.std.specs.Prelude.{ℕ, ◌<◌, List}
use Rattle.event_core.specs.declared.events.Event.{Event}
use Rattle.event_core.specs.declared.bounds.Limits.{Limits}
use Rattle.event_core.specs.Log.{Conflict}
use Rattle.event_core.specs.Order.{Hb}
use Rattle.event_core.specs.Wcp.{Strict}
use Rattle.event_core.specs.Refusal.{WellFormed}
use Rattle.event_core.specs.Verdict.{Races}

-- what strictly precedes an event happens before it
abbrev pub StrictIsWithinHb : Type 0
StrictIsWithinHb = (m : Limits) (log : List Event) (i j : ℕ) → WellFormed m log → Strict log i j → Hb log i j

-- two conflicting accesses that happens-before leaves unordered race
abbrev pub HbRacesAreRaces : Type 0
HbRacesAreRaces =
    (m : Limits) (log : List Event) (i j : ℕ) → WellFormed m log → i < j → Conflict log i j
    → (Hb log i j → ⊥) → Races log i j
