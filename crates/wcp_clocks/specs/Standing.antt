-- When the clocks stand for a log.
use Rattle.std.specs.Prelude.{ℕ, ◌+◌, ◌*◌, ◌^◌, ◌<◌, List, [], ◌∷◌, ◌++◌, length, nat_eq}
use Rattle.std.specs.List.{IsDistinct}
use Rattle.event_core.specs.declared.ids.ThreadId.{ThreadId}
use Rattle.event_core.specs.declared.ids.LockId.{LockId}
use Rattle.event_core.specs.declared.events.Event.{Event}
use Rattle.event_core.specs.declared.bounds.Limits.{Limits}
use Rattle.event_core.specs.Bounds.{AreBounded}
use Rattle.event_core.specs.Refusal.{WellFormed}
use Rattle.hb_clocks.specs.Standing as hb_stands
use Rattle.wcp_laws.specs.Standing.{StandsFor as StateStandsFor}
use Rattle.wcp_laws.specs.Found.{FoundFits}
use Rattle.wcp_clocks.specs.Parts.{Parts, hb_of, state_of, work_of, found_in, Fits, SameNumbers}

-- no lock stands twice in the list of a thread
abbrev pub AreDistinct : (ℕ → List ℕ) → Type 0
AreDistinct held = (t : ThreadId) → IsDistinct nat_eq (held t.0)

-- the numbers of program order and of happens-before, those of the strict relation, and what was found of
-- the closed sections
pub record StandsFor (log : List Event) (p : Parts) : Type 0 where
  pub hb : hb_stands.StandsFor log (hb_of p)
  pub strict : StateStandsFor log (state_of p)
  pub found : FoundFits log (state_of p) (found_in p)
  pub distinct : AreDistinct (state_of p).held

-- parts with the same numbers stand for the same log
abbrev pub SameStand : Type 0
SameStand = (log : List Event) (old new : Parts) → SameNumbers old new → StandsFor log old
    → StandsFor log new

-- the work that has been done leaves room to count that of one event more
pub record HasLittleWork (e : Event) (p : Parts) : Type 0 where
  pub joins : (work_of p).joins + 2 * length ((state_of p).held e.thread.0) < 2 ^ 61
  pub comparisons : (l : LockId) → (work_of p).comparisons + length ((state_of p).closed l.0)
      < 2 ^ 63

-- the limits are within the greatest ones
abbrev pub IsBounded : Limits → Type 0
IsBounded m = AreBounded m.threads m.locks m.vars m.events

-- a legal event finds the numbers as the step asks
abbrev pub FitsWhereLegal : Type 0
FitsWhereLegal = (limits : Limits) (log : List Event) (e : Event) (p : Parts)
    → IsBounded limits → WellFormed limits (log ++ e ∷ []) → StandsFor log p → HasLittleWork e p → Fits e p
