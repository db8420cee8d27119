-- A text that is pushed in pieces, one after another.
use Rattle.std.specs.Prelude.{ℕ, List, [], ◌∷◌, ◌++◌, drop, Option, Some, None}
use Rattle.event_core.specs.declared.events.Event.{Event}
use Rattle.rapid_text.specs.Texts.{Judgement}
use Rattle.rapid_text.specs.Cutting.{Cutting, Pushes}

-- the events of an answer, each with its line
abbrev pub answered : ℕ → Option Event → List (ℕ × Event)
answered line None = []
answered line (Some e) = (line, e) ∷ []

-- the pieces were pushed, and of each what a push left was pushed again; these are the events of the answers
pub data Pushed : Cutting → List (List ℕ) → List (ℕ × Event) → Cutting → Type 0 where
  -- no piece is left
  all_pushed : {s : Cutting} → Pushed s [] [] s
  -- nothing is left of the piece
  used_up : {s t : Cutting} {pieces : List (List ℕ)} {events : List (ℕ × Event)}
      → Pushed s pieces events t → Pushed s ([] ∷ pieces) events t
  -- one more push
  pushed : {s m t : Cutting} {piece : List ℕ} {pieces : List (List ℕ)} {events : List (ℕ × Event)} {used : ℕ}
      {event : Option Event} → Pushes s m piece used event → Pushed m (drop used piece ∷ pieces) events t
      → Pushed s (piece ∷ pieces) (answered m.line event ++ events) t

-- these events come before the others
abbrev pub with_events : List (ℕ × Event) → Judgement → Judgement
with_events events j = record { events = events ++ j.events; fault = j.fault; names = j.names }
