-- What is written of a text, and what is answered: witnesses of a legal trace, or the line of its fault.
use Rattle.std.specs.Prelude.{◌≡◌, ℕ, List, [], Bool, true, false, Option, Some, None, Result, Ok, Err}
use Rattle.std.specs.Io.KnownBytes.{Appends}
use Rattle.event_core.specs.declared.bounds.Limits.{Limits}
use Rattle.rapid_text.specs.Feeding.{OfText}
use Rattle.trace_report.specs.declared.faults.ReplayFault.{ReplayFault}
use Rattle.trace_report.specs.declared.faults.ReplayFault.TheVariants as answers
use Rattle.trace_report.specs.declared.faults.TraceFault.{TraceFault}
use Rattle.trace_report.specs.Findings.{Trace, finding}
use Rattle.trace_report.specs.Replayed.{fault_text, replay_fault, says_nothing}
use Rattle.witness_report.specs.declared.shown.Shown.{Shown}
use Rattle.witness_report.specs.declared.shown.Shown.TheVariants.{Witness, NoWitness, NoRace, Pairs}
use Rattle.witness_report.specs.declared.shown.Shown.TheVariants.{OutOfMemory}
use Rattle.witness_report.specs.Found.{IsNoRace, ShowsNone, ShowsPairs, ShowsWitness}

-- what the text has of the race of the event with this number
abbrev pub ShowsEvent : Limits → Trace → ℕ → Shown → List ℕ → Type 0
ShowsEvent m t number Witness text = ShowsWitness m t number text
ShowsEvent m t number NoWitness text = ShowsNone t number text
ShowsEvent m t number NoRace text = IsNoRace t.log number × (text ≡ [])
ShowsEvent m t number (Pairs summary) text = ⊥
ShowsEvent m t number OutOfMemory text = text ≡ []

-- what it has where no event is named
abbrev pub ShowsAll : Limits → Trace → Shown → List ℕ → Type 0
ShowsAll m t (Pairs summary) text = ShowsPairs m t summary text
ShowsAll m t OutOfMemory text = text ≡ []
ShowsAll m t _ text = ⊥

-- what it has of the event, or of all races
abbrev pub Shows : Limits → Option ℕ → Trace → Shown → List ℕ → Type 0
Shows m None t shown text = ShowsAll m t shown text
Shows m (Some number) t shown text = ShowsEvent m t number shown text

-- the answer and what was written are for the finding: witnesses of a legal trace, or the line of the fault
abbrev pub Answers : Limits → Option ℕ → Result Trace TraceFault → Result Shown ReplayFault → List ℕ → Type 0
Answers m event (Ok t) (Ok shown) text = Shows m event t shown text
Answers m event (Err f) (Err answer) text = (answer ≡ replay_fault f) × (text ≡ fault_text f)
Answers m event _ _ text = ⊥

-- something was written, which is for the finding
pub record HasAnswered (m : Limits) (event : Option ℕ) (old new : Option (List ℕ))
    (found : Result Trace TraceFault) (answer : Result Shown ReplayFault) : Type 0 where
  pub text : List ℕ
  pub answers : Answers m event found answer text
  pub written : Appends old new text

-- what was written is, together with the answer, for the text that the reader had left
abbrev pub AnswersText : Limits → Option ℕ → Option (List ℕ) → Option (List ℕ) → Option (List ℕ)
    → Result Shown ReplayFault → Type 0
AnswersText m event left old new answer =
    OfText left (λ text. HasAnswered m event old new (finding m text) answer)

-- nothing was written: the event does not race, or a read or a growth failed
abbrev pub is_silent : Result Shown ReplayFault → Bool
is_silent (Ok NoRace) = true
is_silent (Ok OutOfMemory) = true
is_silent (Ok _) = false
is_silent (Err answers.Write) = false
is_silent (Err f) = says_nothing f
