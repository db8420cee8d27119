-- What an answer is for the finding of a text.
use Rattle.std.proofs.Common.{◌≡◌, ◌≢◌, ◌∙◌, ℕ, List, Option, true, Result, Ok, Err, ap, refl}
use Rattle.std.proofs.Common.{subst, sym}
use Rattle.event_core.specs.declared.bounds.Limits.{Limits}
use Rattle.event_core.specs.declared.events.Event.{Event}
use Rattle.rapid_text.specs.Tables.{Tables}
use Rattle.trace_report.specs.declared.faults.ReplayFault.{ReplayFault}
use Rattle.trace_report.specs.declared.faults.ReplayFault.TheVariants.{Refused, Text, Write}
use Rattle.trace_report.specs.declared.faults.TraceFault.{TraceFault}
use Rattle.trace_report.specs.Findings.{Trace}
use Rattle.trace_report.specs.Judging.{FindsFault, FindsTrace}
use Rattle.trace_report.specs.Replayed.{fault_text, says_nothing}
use Rattle.trace_report.proofs.TellsTextProperties.{TellsFault}
use Rattle.witness_report.specs.declared.shown.Shown.{Shown}
use Rattle.witness_report.specs.Showing.{AnswersText, HasAnswered, is_silent}

-- the answer for a legal trace: the log is the one that was judged, under the same limits
pub trace_answered : {m n : Limits} (event : Option ℕ) {left : Option (List ℕ)} (old new : Option (List ℕ))
    {After : List Event → Type 0} {names : Tables} (log : List Event) {answer : Result Shown ReplayFault}
    → FindsTrace m left After names → n ≡ m → ((found : List Event) → After found → log ≡ found)
    → HasAnswered n event old new (Ok (record { names = names; log = log })) answer
    → AnswersText m event left old new answer
trace_answered {m} {n} event {left} old new {After} {names} log {answer} f same is answers =
    let given : Result Trace TraceFault = Ok (record { names = names; log = log }) in
    let found = ap (λ (l : List Event). Ok (record { names = names; log = l })) (is f.log f.after)
    ∙ sym f.finds in
    record {
      text = f.text;
      is_left = f.is_left;
      holds = subst (λ (x : Result Trace TraceFault). HasAnswered m event old new x answer) found
          (subst (λ (l : Limits). HasAnswered l event old new given answer) same answers);
    }

-- the answer for a fault
pub fault_answered : {m : Limits} (event : Option ℕ) {left : Option (List ℕ)} (old new : Option (List ℕ))
    {f : TraceFault} {answer : ReplayFault} → FindsFault m left f → TellsFault old new f answer
    → AnswersText m event left old new (Err answer)
fault_answered {m} event old new {f} {answer} found tells = record {
  text = found.text;
  is_left = found.is_left;
  holds = subst (λ (x : Result Trace TraceFault). HasAnswered m event old new x (Err answer))
      (sym (found.finds tells.1))
      (record { text = fault_text f; answers = (tells.0, refl); written = tells.2 });
}

-- a fault with which nothing is written says nothing of the text, and is no fault of the writer
pub silent_fault : (f : ReplayFault) → is_silent (Err f) ≡ true → (says_nothing f ≡ true) × (f ≢ Write)
silent_fault (Text f) is = (is, λ e. cc)
silent_fault (Refused line r) is = (is, λ e. cc)
silent_fault Write is = absurd (cc)
