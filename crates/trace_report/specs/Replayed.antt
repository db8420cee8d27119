-- What a replay writes and answers: the report of a legal trace, or the line of its first fault.
use Rattle.std.specs.Prelude.{◌≡◌, ℕ, List, Bool, true, false, Option, Some, None, Result, Ok, Err}
use Rattle.std.specs.Io.KnownBytes.{Appends}
use Rattle.event_core.specs.declared.bounds.Limits.{Limits}
use Rattle.event_core.specs.declared.replies.Refusal.{Refusal}
use Rattle.event_core.specs.declared.replies.Refusal.TheVariants as refusals
use Rattle.event_core.specs.declared.replies.Verdict.{Verdict}
use Rattle.rapid_text.specs.declared.causes.Cause.{Cause}
use Rattle.rapid_text.specs.declared.causes.Cause.TheVariants as causes
use Rattle.rapid_text.specs.Faults.{cause_word, fault_line}
use Rattle.rapid_text.specs.Feeding.{OfText}
use Rattle.seq_monitor.specs.Monitored.{AreVerdicts}
use Rattle.trace_report.specs.declared.faults.ReplayFault.{ReplayFault}
use Rattle.trace_report.specs.declared.faults.ReplayFault.TheVariants as answers
use Rattle.trace_report.specs.declared.faults.TraceFault.{TraceFault}
use Rattle.trace_report.specs.declared.faults.TraceFault.TheVariants.{Text, Refused}
use Rattle.trace_report.specs.declared.summary.Summary.{Summary}
use Rattle.trace_report.specs.Findings.{Trace, finding}
use Rattle.trace_report.specs.Reports.{report_of, summary_of}
use Rattle.trace_report.specs.Words.{refusal_word}

-- ---- what is written

-- the text is the report of the trace, with the verdicts of weak causal precedence, and this is its summary
pub record IsReport (t : Trace) (text : List ℕ) (s : Summary) : Type 0 where
  pub verdicts : List Verdict
  pub are : AreVerdicts t.log verdicts
  pub text_is : text ≡ report_of t.names t.log verdicts
  pub summary : s ≡ summary_of t.names t.log verdicts

-- the one line that tells a fault
abbrev pub fault_text : TraceFault → List ℕ
fault_text (Text f) = fault_line f.line (cause_word f.cause)
fault_text (Refused line r) = fault_line line (refusal_word r)

-- the answer where the text has this fault
abbrev pub replay_fault : TraceFault → ReplayFault
replay_fault (Text f) = answers.Text f
replay_fault (Refused line r) = answers.Refused line r

-- the answer and what was written tell the finding: the report of a legal trace, or the line of the fault
abbrev pub Tells : Result Trace TraceFault → Result Summary ReplayFault → List ℕ → Type 0
Tells (Ok t) (Ok s) text = IsReport t text s
Tells (Err f) (Err answer) text = (answer ≡ replay_fault f) × (text ≡ fault_text f)
Tells _ _ text = ⊥

-- something was written, which tells the finding together with the answer
pub record Told (old new : Option (List ℕ)) (found : Result Trace TraceFault)
    (answer : Result Summary ReplayFault) : Type 0 where
  pub text : List ℕ
  pub tells : Tells found answer text
  pub written : Appends old new text

-- what was written tells, together with the answer, what the text that the reader had left comes to
abbrev pub TellsText : Limits → Option (List ℕ) → Option (List ℕ) → Option (List ℕ)
    → Result Summary ReplayFault → Type 0
TellsText m left old new answer = OfText left (λ text. Told old new (finding m text) answer)

-- ---- faults that say nothing of the text

abbrev pub cause_gives_up : Cause → Bool
cause_gives_up causes.Read = true
cause_gives_up causes.OutOfMemory = true
cause_gives_up _ = false

abbrev pub refusal_gives_up : Refusal → Bool
refusal_gives_up refusals.OutOfMemory = true
refusal_gives_up _ = false

-- a read failed or the turns are used up, or a growth was refused
abbrev pub gives_up : TraceFault → Bool
gives_up (Text f) = cause_gives_up f.cause
gives_up (Refused line r) = refusal_gives_up r

abbrev pub fault_gives_up : Option TraceFault → Bool
fault_gives_up None = false
fault_gives_up (Some f) = gives_up f

-- or a write failed
abbrev pub says_nothing : ReplayFault → Bool
says_nothing (answers.Text f) = cause_gives_up f.cause
says_nothing (answers.Refused line r) = refusal_gives_up r
says_nothing answers.Write = true

abbrev pub answer_gives_up : {A : Type 0} → Result A ReplayFault → Bool
answer_gives_up (Ok a) = false
answer_gives_up (Err f) = says_nothing f

-- where the answer is a fault of the text, it is so
abbrev pub IfFound : {A : Type 0} → Result A ReplayFault → (TraceFault → Type 0) → Type 0
IfFound (Err (answers.Text f)) IsSo = IsSo (Text f)
IfFound (Err (answers.Refused line r)) IsSo = IsSo (Refused line r)
IfFound _ IsSo = Unit {0}
