-- What a text comes to: a legal trace, or its first line that has a fault or whose event is refused.
use Rattle.std.specs.Prelude.{
  ◌≡◌,
  ℕ,
  ◌⊎◌,
  List,
  [],
  ◌∷◌,
  ◌++◌,
  Option,
  Some,
  None,
  Result,
  Ok,
  Err,
  map,
  slice_get,
}
use Rattle.std.proofs.Math.ListN.{take}
use Rattle.event_core.specs.declared.bounds.Limits.{Limits}
use Rattle.event_core.specs.declared.events.Call.{Call}
use Rattle.event_core.specs.declared.events.Event.{Event}
use Rattle.event_core.specs.declared.replies.Refusal.{Refusal}
use Rattle.event_core.specs.Refusal.{refusal, event_of, WellFormed}
use Rattle.rapid_text.specs.declared.causes.Cause.{Cause}
use Rattle.rapid_text.specs.declared.causes.TextFault.{TextFault}
use Rattle.rapid_text.specs.Tables.{Tables, no_names}
use Rattle.rapid_text.specs.Texts.{Judgement, judgement}
use Rattle.trace_report.specs.declared.faults.TraceFault.{TraceFault}
use Rattle.trace_report.specs.declared.faults.TraceFault.TheVariants.{Text, Refused}

-- ---- the finding

-- the call that a line asks for; what a trace stores is 0
abbrev pub call_of : Event → Call
call_of e = record { thread = e.thread; op = e.op; site = e.site; arg = 0 }

-- a legal trace: its log, and the names of its numbers
pub record Trace : Type 0 where
  pub names : Tables
  pub log : List Event

-- a fault of the text is found where no event before it is refused
abbrev pub ended_with : Tables → List Event → Option (ℕ × Cause) → Result Trace TraceFault
ended_with names log None = Ok (record { names = names; log = log })
ended_with names log (Some f) = Err (Text (record { line = f.0; cause = f.1 }))

abbrev pub refused_or : ℕ → Option Refusal → Result Trace TraceFault → Result Trace TraceFault
refused_or line None later = later
refused_or line (Some r) later = Err (Refused line r)

-- the calls of the lines are made one after another, from this log on; the first that is refused ends it
abbrev pub played : Limits → List Event → List (ℕ × Event) → (List Event → Result Trace TraceFault)
    → Result Trace TraceFault
played m log [] end = end log
played m log (p ∷ ps) end =
    refused_or p.0 (refusal m log (call_of p.1)) (played m (log ++ event_of log (call_of p.1) ∷ []) ps end)

-- what a judged text comes to after this log: its first event that is refused, else its fault, else its trace
abbrev pub finding_after : Limits → List Event → Judgement → Result Trace TraceFault
finding_after m log j = played m log j.events (λ end. ended_with j.names end j.fault)

-- what a whole text comes to
unfoldable pub finding : Limits → List ℕ → Result Trace TraceFault
finding m text = finding_after m [] (judgement (no_names m) text)

-- memory ran out at this line: for the names of its event, or for the event, which is not refused after this
-- log
abbrev pub RunsOutAt : Limits → List Event → ℕ × Event → TraceFault → Type 0
RunsOutAt m log p (Text f) = p.0 ≡ f.line
RunsOutAt m log p (Refused line r) = (p.0 ≡ line) × (refusal m log (call_of p.1) ≡ None)

-- memory ran out at one of the lines, each of which has an event, and no event of a line before it is refused
abbrev pub RunsOut : Limits → List Event → List (ℕ × Event) → TraceFault → Type 0
RunsOut m log [] f = ⊥
RunsOut m log (p ∷ ps) f = RunsOutAt m log p f
    ⊎ ((refusal m log (call_of p.1) ≡ None) × RunsOut m (log ++ event_of log (call_of p.1) ∷ []) ps f)

-- the line of the fault is reached in the judged text after this log, and memory ran out at it
abbrev pub IsReached : Limits → List Event → Judgement → TraceFault → Type 0
IsReached m log j f = RunsOut m log j.events f

-- ---- the same, said of the log that the lines make

-- the events of numbered lines
abbrev pub log_of : List (ℕ × Event) → List Event
log_of lines = map (λ p. p.1) lines

-- the text has no fault, its events make a well-formed log, and this is its trace
pub record IsLegalTrace (m : Limits) (j : Judgement) (t : Trace) : Type 0 where
  pub no_fault : j.fault ≡ None
  pub legal : WellFormed m (log_of j.events)
  pub trace : t ≡ record { names = j.names; log = log_of j.events }

-- the event of line n is refused, and all before it make a well-formed log
pub record IsFirstRefused (m : Limits) (j : Judgement) (n : ℕ) (r : Refusal) : Type 0 where
  pub index : ℕ
  pub event : Event
  pub at : slice_get j.events index ≡ Some (n, event)
  pub before : WellFormed m (take index (log_of j.events))
  pub refused : refusal m (take index (log_of j.events)) (call_of event) ≡ Some r

-- the text stops with this fault, and all events before it make a well-formed log
pub record IsFirstFault (m : Limits) (j : Judgement) (f : TextFault) : Type 0 where
  pub fault : j.fault ≡ Some (f.line, f.cause)
  pub legal : WellFormed m (log_of j.events)
