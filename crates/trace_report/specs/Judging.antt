-- A text that is judged line by line: what a line does to its names and to the log that it makes.
use Rattle.std.specs.Prelude.{
  ◌≡◌,
  ℕ,
  ◌≤◌,
  ◌⊎◌,
  List,
  [],
  ◌∷◌,
  ◌++◌,
  Bool,
  true,
  false,
  Option,
  Some,
  None,
  Ok,
  Err,
  Result,
  OnOk,
  IfErr,
  IfSome,
}
use Rattle.event_core.specs.declared.bounds.Limits.{Limits}
use Rattle.event_core.specs.declared.events.Event.{Event}
use Rattle.event_core.specs.declared.replies.Refusal.{Refusal}
use Rattle.event_core.specs.declared.replies.Refusal.TheVariants.{OutOfMemory}
use Rattle.event_core.specs.Refusal.{event_of, refusal}
use Rattle.rapid_text.specs.declared.causes.Cause.{Cause}
use Rattle.rapid_text.specs.declared.causes.Cause.TheVariants as causes
use Rattle.rapid_text.specs.declared.causes.TextFault.{TextFault}
use Rattle.rapid_text.specs.Events.{content, reading, Fails, HasEvent, IsOfNames}
use Rattle.rapid_text.specs.Feeding.{OfText, WithinTurns}
use Rattle.rapid_text.specs.Tables.{Tables, TablesGrow, no_names}
use Rattle.rapid_text.specs.Taking.{Truncates}
use Rattle.rapid_text.specs.Texts.{Judgement, judgement}
use Rattle.rapid_text.specs.Turns.{IsCutShort, PulledWithin}
use Rattle.trace_report.specs.declared.faults.ReplayFault.{ReplayFault}
use Rattle.trace_report.specs.declared.faults.TraceFault.{TraceFault}
use Rattle.trace_report.specs.declared.faults.TraceFault.TheVariants.{Text, Refused}
use Rattle.trace_report.specs.Findings.{call_of, finding, finding_after, IsReached}
use Rattle.trace_report.specs.Replayed.{gives_up, IfFound}
use Rattle.trace_report.specs.Reports.{AreNamed}

-- why an event was not accepted: it is refused, or memory ran out and it is not
abbrev pub Declines : Limits → List Event → Event → Refusal → Type 0
Declines m log e r = (refusal m log (call_of e) ≡ Some r)
    ⊎ ((r ≡ OutOfMemory) × (refusal m log (call_of e) ≡ None))

-- the text was not read to its end
abbrev pub is_read : Cause → Bool
is_read causes.Read = true
is_read _ = false

abbrev pub is_read_fault : TraceFault → Bool
is_read_fault (Text f) = is_read f.cause
is_read_fault _ = false

-- a growth was refused
abbrev pub RanOut : TraceFault → Type 0
RanOut (Text f) = f.cause ≡ causes.OutOfMemory
RanOut (Refused line r) = r ≡ OutOfMemory

abbrev pub line_of : TraceFault → ℕ
line_of (Text f) = f.line
line_of (Refused line r) = line

-- what a fault says of a judged text after this log: that it comes to it, or where memory ran out
pub record Says (m : Limits) (log : List Event) (j : Judgement) (f : TraceFault) : Type 0 where
  pub finds : gives_up f ≡ false → finding_after m log j ≡ Err f
  pub reached : RanOut f → IsReached m log j f

-- ---- a line

-- what a judge that was as after this log does with a line: its event, if it has one, is not refused, and
-- comes next in the log
abbrev pub Accepts : Limits → List Event → Option Event → (List Event → Type 0) → Type 0
Accepts m log None After = After log
Accepts m log (Some e) After =
    (refusal m log (call_of e) ≡ None) × After (log ++ event_of log (call_of e) ∷ [])

-- the line was read with these names, and judged
pub record Judges (Before After : Limits → List Event → Type 0) (names : Tables) (line : List ℕ)
    (now : Tables) : Type 0 where
  pub event : Option Event
  pub reads : reading names (content line) ≡ Ok (event, now)
  pub grows : TablesGrow names now
  pub named : IfSome event (IsOfNames now)
  pub accepts : (m : Limits) (log : List Event) → Before m log → Accepts m log event (After m)

-- line n has this fault, or memory ran out for the names of its event
pub record HasFault (names : Tables) (n : ℕ) (line : List ℕ) (f : TextFault) : Type 0 where
  pub at : f.line ≡ n
  pub why : Fails f.cause (reading names (content line))
  pub memory : f.cause ≡ causes.OutOfMemory → HasEvent (reading names (content line))

-- the event of line n was not accepted
pub record HasRefusal (Before : Limits → List Event → Type 0) (names : Tables) (n : ℕ) (line : List ℕ)
    (k : ℕ) (r : Refusal) : Type 0 where
  pub at : k ≡ n
  pub event : Event
  pub now : Tables
  pub reads : reading names (content line) ≡ Ok (Some event, now)
  pub declines : (m : Limits) (log : List Event) → Before m log → Declines m log event r

-- the text stops at line n
abbrev pub Stops : (Limits → List Event → Type 0) → Tables → ℕ → List ℕ → TraceFault → Type 0
Stops Before names n line (Text f) = HasFault names n line f
Stops Before names n line (Refused k r) = HasRefusal Before names n line k r

-- ---- a whole text

-- the text that was left is a legal trace, and the judge is as after its log
pub record FindsTrace (m : Limits) (left : Option (List ℕ)) (After : List Event → Type 0) (names : Tables)
    : Type 0 where
  pub text : List ℕ
  pub is_left : IfSome left (λ whole. text ≡ whole)
  pub log : List Event
  pub after : After log
  pub named : AreNamed names log
  pub finds : finding m text ≡ Ok (record { names = names; log = log })

-- memory ran out at a line with an event, and no event of a line before is refused
abbrev pub ReachesLine : Limits → Option (List ℕ) → TraceFault → Type 0
ReachesLine m left f = OfText left (λ text. IsReached m [] (judgement (no_names m) text) f)

-- it comes to this fault, or memory ran out
pub record FindsFault (m : Limits) (left : Option (List ℕ)) (f : TraceFault) : Type 0 where
  pub text : List ℕ
  pub is_left : IfSome left (λ whole. text ≡ whole)
  pub finds : gives_up f ≡ false → finding m text ≡ Err f
  pub reached : RanOut f → IsReached m [] (judgement (no_names m) text) f

-- ---- a text that was not read to its end

-- for this reason: the fault is at the line whose end was not seen, and whatever follows what came, no line
-- before it has a fault or an event that is refused
pub record IsTruncatedAt (m : Limits) (left rest : Option (List ℕ)) (Why : List ℕ → Type 0) (f : TraceFault)
    : Type 0 where
  pub line : ℕ
  pub at : f ≡ Text (record { line = line; cause = causes.Read })
  pub stops : Truncates left rest Why line
      (λ came. (more : List ℕ) → IfErr (finding m (came ++ more)) (λ g. line ≤ line_of g))

-- how much of a text was read for an answer, in so many turns
pub record HasRead {A : Type 0} (m : Limits) (left rest : Option (List ℕ)) (turns : ℕ) (read_failed : Bool)
    (before after : Option ℕ) (answer : Result A ReplayFault) : Type 0 where
  -- however it ended, no more pulls were made than there are turns, and each gave at most 65,536 bytes
  pub pulls : PulledWithin turns before after
  pub few : WithinTurns turns left rest
  -- no failed read is passed over where there is a result
  pub whole : OnOk answer (read_failed ≡ false)
  -- a read fault is answered only where a read failed, or as many pulls were made as there are turns
  pub truncated : IfFound answer (λ f. is_read_fault f ≡ true
      → IsTruncatedAt m left rest (IsCutShort turns read_failed before after) f)
