-- The meaning of a whole text: its events with their lines, up to the first fault, and its names.
use Rattle.std.specs.Prelude.{◌≡◌, ℕ, ◌+◌, List, [], ◌∷◌, Option, Some, None, Result, Ok, Err}
use Rattle.event_core.specs.declared.events.Event.{Event}
use Rattle.rapid_text.specs.declared.causes.Cause.{Cause}
use Rattle.rapid_text.specs.declared.causes.TextFault.{TextFault}
-- the lines of a text, each without its LF; an empty rest after the last LF is no line
pub use Rattle.rapid_line.specs.Lines.{lines_of}
use Rattle.rapid_text.specs.Tables.{Tables, TablesGrow}
use Rattle.rapid_text.specs.Events.{content, reading}

-- what a text comes to: its events, each with the number of its line, the first fault, if there is one, with
-- the number of its line, and the names of the lines before the fault
pub record Judgement : Type 0 where
  pub events : List (ℕ × Event)
  pub fault : Option (ℕ × Cause)
  pub names : Tables

-- the text ended
abbrev pub ended : Tables → Judgement
ended t = record { events = []; fault = None; names = t }

-- the text stopped with a fault at line n
abbrev pub stopped : Tables → ℕ → Cause → Judgement
stopped t n f = record { events = []; fault = Some (n, f); names = t }

-- it stops with this fault after these events
abbrev pub StopsAfter : List (ℕ × Event) → TextFault → Judgement → Type 0
StopsAfter events f j = (j.events ≡ events) × (j.fault ≡ Some (f.line, f.cause))

-- it stops with this fault before any event
abbrev pub StopsWith : TextFault → Judgement → Type 0
StopsWith f j = StopsAfter [] f j

-- the event of line n, if it has one, comes before the others
abbrev pub with_event : ℕ → Option Event → Judgement → Judgement
with_event n None j = j
with_event n (Some e) j = record { events = (n, e) ∷ j.events; fault = j.fault; names = j.names }

abbrev pub after_line : Tables → ℕ → Result (Option Event × Tables) Cause → (Tables → Judgement) → Judgement
after_line t n (Err f) go = stopped t n f
after_line t n (Ok p) go = with_event n p.0 (go p.1)

-- the lines from number n on, judged with the names of the lines before
abbrev pub judge : List (List ℕ) → Tables → ℕ → Judgement
judge [] t n = ended t
judge (l ∷ ls) t n = after_line t n (reading t (content l)) (λ u. judge ls u (n + 1))

-- the meaning of a whole text; lines are numbered from 1
abbrev pub judgement : Tables → List ℕ → Judgement
judgement names text = judge (lines_of text) names 1

-- the text is judged from line n on, so no line before it has an event or a fault; names were only added to
-- those of the lines before
pub record BeginsAt (n : ℕ) (names : Tables) (j : Judgement) : Type 0 where
  pub before : Tables
  pub lines : List (List ℕ)
  pub same : j ≡ judge lines before n
  pub grows : TablesGrow before names

-- the line of the first event
abbrev pub first_line : List (ℕ × Event) → Option ℕ
first_line [] = None
first_line (e ∷ es) = Some e.0

-- line n is the first with an event, and no line before it has a fault
abbrev pub FirstAt : ℕ → Judgement → Type 0
FirstAt n j = first_line j.events ≡ Some n
