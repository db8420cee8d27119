-- What an answer tells of a finding.
use Rattle.std.proofs.Common.{◌≡◌, ◌≢◌, ◌⊎◌, inl, inr, ℕ, List, Option, Some, None, Result, Ok, Err, Bool}
use Rattle.std.proofs.Common.{true, false, length, refl, sym, ap, subst, ◌∙◌, arith}
use Rattle.std.specs.Prelude.{IfSome}
use Rattle.std.specs.Io.KnownBytes.{Appends}
use Rattle.std.proofs.lemmas.Option.{slice_get_within}
use Rattle.event_core.specs.declared.bounds.Limits.{Limits}
use Rattle.event_core.specs.declared.events.Event.{Event}
use Rattle.event_core.specs.declared.replies.Verdict.{Verdict}
use Rattle.event_core.specs.declared.replies.Verdict.TheVariants.{Racy}
use Rattle.rapid_text.specs.Feeding.{WithinTurns}
use Rattle.rapid_text.specs.Turns.{IsCutShort, PulledWithin}
use Rattle.rapid_text.specs.Tables.{Tables}
use Rattle.seq_monitor.specs.Monitored.{AreVerdicts}
use Rattle.trace_report.specs.declared.faults.ReplayFault.{ReplayFault}
use Rattle.trace_report.specs.declared.faults.ReplayFault.TheVariants.{Write}
use Rattle.trace_report.specs.declared.faults.TraceFault.{TraceFault}
use Rattle.trace_report.specs.declared.faults.TraceFault.TheVariants.{Text, Refused}
use Rattle.trace_report.specs.declared.counts.Counts.{Counts}
use Rattle.trace_report.specs.declared.summary.Summary.{Summary}
use Rattle.trace_report.specs.Reports.{AreWithin}
use Rattle.trace_report.specs.Findings.{Trace}
use Rattle.trace_report.specs.Replayed.{IfFound, Told, TellsText, fault_text, gives_up}
use Rattle.trace_report.specs.Replayed.{replay_fault, says_nothing}
use Rattle.trace_report.specs.Replaying.{fault_or}
use Rattle.trace_report.specs.Judging.{FindsTrace, FindsFault, HasRead, IsTruncatedAt, RanOut, ReachesLine}
use Rattle.trace_report.specs.Judging.{is_read_fault}
use Rattle.trace_report.specs.Checked.{ChecksText, counted, counts_line, counts_of, told}

-- the verdicts on a log name earlier events of it
pub verdicts_within : (log : List Event) (verdicts : List Verdict) → AreVerdicts log verdicts
    → AreWithin log verdicts
verdicts_within log verdicts are = record {
  all = are.all;
  each = λ j i at.
      let before = (are.each j (Racy i) at).0.before in
      let within = slice_get_within verdicts j (Racy i) at in
      let same = are.all in
      omega arith;
}

-- the fault that stands is what the text comes to, and else that of its end
pub ended_fault : (o : Option TraceFault) (later : Result Trace TraceFault) (f : TraceFault)
    → (o ≡ None → later ≡ Err f) → IfSome o (λ g. f ≡ g) → fault_or o later ≡ Err f
ended_fault None later f at_end same = at_end refl
ended_fault (Some h) later f at_end same = ap (λ (x : TraceFault). Err x) (sym same)

pub ended_trace : (o : Option TraceFault) (later : Result Trace TraceFault) → o ≡ None
    → fault_or o later ≡ later
ended_trace None later none = refl
ended_trace (Some f) later none = absurd (cc)

-- ---- the answer of a text with a fault

-- it is this fault, and its line was written
abbrev pub TellsFault : (old new : Option (List ℕ)) → TraceFault → ReplayFault → Type 0
TellsFault old new f answer =
    (answer ≡ replay_fault f) × (gives_up f ≡ false) × Appends old new (fault_text f)

-- it gives up just where the fault does, and is no fault of the writer
pub same_fault : (f : TraceFault) → (says_nothing (replay_fault f) ≡ gives_up f) × (replay_fault f ≢ Write)
same_fault (Text f) = (refl, λ e. cc)
same_fault (Refused line r) = (refl, λ e. cc)

-- what holds of the fault holds of the answer
pub if_found : (A : Type 0) (So : TraceFault → Type 0) {f : TraceFault} {answer : ReplayFault}
    → (answer ≡ replay_fault f) ⊎ (answer ≡ Write) → So f → IfFound {A = A} (Err answer) So
if_found A So {f = f} (inl is) so = subst (λ (x : ReplayFault). IfFound {A = A} (Err x) So) (sym is) (of f so)
  where
    of : (f : TraceFault) → So f → IfFound {A = A} (Err (replay_fault f)) So
    of (Text f) so = so
    of (Refused line r) so = so
if_found A So (inr is) so = subst (λ (x : ReplayFault). IfFound {A = A} (Err x) So) (sym is) tt

-- how much was read for it
pub fault_read : (A : Type 0) {m : Limits} {left rest : Option (List ℕ)} {turns : ℕ} {failed : Bool}
    {before after : Option ℕ} {f : TraceFault} {answer : ReplayFault}
    → (answer ≡ replay_fault f) ⊎ (answer ≡ Write)
    → PulledWithin turns before after × WithinTurns turns left rest
    → (is_read_fault f ≡ true → IsTruncatedAt m left rest (IsCutShort turns failed before after) f)
    → HasRead {A = A} m left rest turns failed before after (Err answer)
fault_read A {m} {left} {rest} {turns} {failed} {before} {after} answers read truncated = record {
  pulls = read.0;
  few = read.1;
  whole = tt;
  truncated = if_found A
      (λ f. is_read_fault f ≡ true → IsTruncatedAt m left rest (IsCutShort turns failed before after) f)
      answers truncated;
}

abbrev pub AnswersFault : (A : Type 0) → ReplayFault → TraceFault → Type 0
AnswersFault A answer f =
    let given : Result A ReplayFault = Err answer in
    (given ≡ Err (replay_fault f)) ⊎ (given ≡ Err Write)

-- a fault that stood is the one that is answered
pub stood_answered : (A : Type 0) (o : Option TraceFault) (f : TraceFault) {answer : ReplayFault}
    → (answer ≡ replay_fault f) ⊎ (answer ≡ Write) → IfSome o (λ g. f ≡ g)
    → IfSome o (AnswersFault A answer)
stood_answered A None f answers same = tt
stood_answered A (Some g) f (inl is) same = inl (ap (λ (x : ReplayFault). Err x) (is ∙ ap replay_fault same))
stood_answered A (Some g) f (inr is) same = inr (ap (λ (x : ReplayFault). Err x) is)

-- ---- a replay

pub fault_told : {found : Result Trace TraceFault} (old new : Option (List ℕ)) {f : TraceFault}
    {answer : ReplayFault} → (gives_up f ≡ false → found ≡ Err f) → TellsFault old new f answer
    → Told old new found (Err answer)
fault_told old new {f = f} {answer = answer} finds tells =
    subst (λ (x : Result Trace TraceFault). Told old new x (Err answer)) (sym (finds tells.1))
    (record { text = fault_text f; tells = (tells.0, refl); written = tells.2 })

pub trace_tells : {m : Limits} {left old new : Option (List ℕ)} {After : List Event → Type 0}
    {names : Tables} {log : List Event} {answer : Result Summary ReplayFault}
    → FindsTrace m left After names → ((found : List Event) → After found → log ≡ found)
    → Told old new (Ok (record { names = names; log = log })) answer → TellsText m left old new answer
trace_tells {old = old} {new = new} {names} {answer = answer} f is tells = record {
  text = f.text;
  is_left = f.is_left;
  holds = subst (λ (found : Result Trace TraceFault). Told old new found answer)
      (ap (λ (l : List Event). Ok (record { names = names; log = l })) (is f.log f.after) ∙ sym f.finds)
      tells;
}

pub fault_tells : {m : Limits} {left : Option (List ℕ)} (old new : Option (List ℕ)) {f : TraceFault}
    {answer : ReplayFault} → FindsFault m left f → TellsFault old new f answer
    → TellsText m left old new (Err answer)
fault_tells old new found tells =
    record { text = found.text; is_left = found.is_left; holds = fault_told old new found.finds tells }

-- ---- a check

pub trace_checks : {m : Limits} {left : Option (List ℕ)} (old new : Option (List ℕ))
    {After : List Event → Type 0} {events : ℕ} {names : Tables} {c : Counts} → FindsTrace m left After names
    → ((log : List Event) → After log → events ≡ length log) → c ≡ counts_of events names
    → Appends old new (counts_line c) → ChecksText m left old new (Ok c)
trace_checks old new {names = names} f count is written = record {
  text = f.text;
  is_left = f.is_left;
  holds = (
    ap (λ (x : Counts). Ok x) (is ∙ ap (λ (n : ℕ). counts_of n names) (count f.log f.after))
        ∙ sym (ap counted f.finds),
    written,
  );
}

pub fault_checks : {m : Limits} {left : Option (List ℕ)} (old new : Option (List ℕ)) {f : TraceFault}
    {answer : ReplayFault} → FindsFault m left f → TellsFault old new f answer
    → ChecksText m left old new (Err answer)
fault_checks old new {f = f} {answer = answer} found tells = record {
  text = found.text;
  is_left = found.is_left;
  holds = (
    ap (λ (x : ReplayFault). Err x) tells.0 ∙ sym (ap counted (found.finds tells.1)),
    subst (λ (x : ReplayFault). Appends old new (told (Err x))) (sym tells.0) (line f tells.2),
  );
}
  where
    line : (f : TraceFault) → Appends old new (fault_text f) → Appends old new (told (Err (replay_fault f)))
    line (Text f) written = written
    line (Refused n r) written = written

pub found_reached : {m : Limits} {left : Option (List ℕ)} {f : TraceFault} → FindsFault m left f → RanOut f
    → ReachesLine m left f
found_reached found out =
    record { text = found.text; is_left = found.is_left; holds = found.reached out }
