-- What is found in a text is its first line that has a fault or whose event is refused.
use Rattle.std.proofs.Common.{◌≡◌, ◌↔◌, inl, inr, ℕ, [], Option, Some, None, Result, Ok, Err}
use Rattle.std.proofs.Common.{refl, sym, ap, ap₂, ◌∙◌}
use Rattle.event_core.specs.declared.bounds.Limits.{Limits}
use Rattle.event_core.specs.declared.replies.Refusal.{Refusal}
use Rattle.rapid_text.specs.declared.causes.Cause.{Cause}
use Rattle.rapid_text.specs.declared.causes.TextFault.{TextFault}
use Rattle.rapid_text.specs.Texts.{Judgement}
use Rattle.trace_report.specs.declared.faults.TraceFault.{TraceFault}
use Rattle.trace_report.specs.declared.faults.TraceFault.TheVariants.{Text, Refused}
use Rattle.trace_report.specs.Findings.{Trace, ended_with, finding_after, log_of}
use Rattle.trace_report.specs.Findings.{IsLegalTrace, IsFirstFault, IsFirstRefused}
use Rattle.trace_report.proofs.FirstRefused.{HasRefused, IsPlayed, empty_legal, none_refused, one_refused}
use Rattle.trace_report.proofs.FirstRefused.{plays}
use Rattle.trace_report.proofs.Values.{StoreNothing}

-- the trace of a judged text, or its fault
abbrev text_finding : Judgement → Option (ℕ × Cause) → Result Trace TraceFault
text_finding j o = ended_with j.names (log_of j.events) o

not_refused : (j : Judgement) (o : Option (ℕ × Cause)) (n : ℕ) (r : Refusal)
    → text_finding j o ≡ Err (Refused n r) → ⊥
not_refused j None n r e = cc
not_refused j (Some f) n r e = cc

no_fault_in : (j : Judgement) (o : Option (ℕ × Cause)) (t : Trace) → text_finding j o ≡ Ok t
    → (o ≡ None) × (record { names = j.names; log = log_of j.events } ≡ t)
no_fault_in j None t e = (refl, cc)
no_fault_in j (Some f) t e = absurd (cc)

some_fault_in : (j : Judgement) (o : Option (ℕ × Cause)) (f : TextFault) → text_finding j o ≡ Err (Text f)
    → o ≡ Some (f.line, f.cause)
some_fault_in j None f e = absurd (cc)
some_fault_in j (Some g) f e =
    let same : record { line = g.0; cause = g.1 } ≡ f = cc in
    ap (λ (x : TextFault). Some (x.line, x.cause)) same

module _ (m : Limits) (j : Judgement) (z : StoreNothing (log_of j.events)) where
  plays_on : IsPlayed m [] j.events (λ end. ended_with j.names end j.fault)
  plays_on = plays m j.events [] (λ end. ended_with j.names end j.fault) tt z (empty_legal m)

  pub found_legal : (t : Trace) → (finding_after m [] j ≡ Ok t) ↔ IsLegalTrace m j t
  found_legal t = elim plays_on [
    | inl h ↦ (
      λ e.
          let in_text = no_fault_in j j.fault t (sym h.1 ∙ e) in
          record { no_fault = in_text.0; legal = h.0; trace = sym in_text.1 },
      λ l. h.1 ∙ ap (text_finding j) l.no_fault ∙ ap (λ (u : Trace). Ok u) (sym l.trace),
    )
    | inr h ↦ (
      λ e. absurd (let bad = sym h.1 ∙ e in cc),
      λ l. absurd (none_refused m j.events h.0 l.legal),
    )
  ]

  pub found_fault : (f : TextFault) → (finding_after m [] j ≡ Err (Text f)) ↔ IsFirstFault m j f
  found_fault f = elim plays_on [
    | inl h ↦ (
      λ e. record { fault = some_fault_in j j.fault f (sym h.1 ∙ e); legal = h.0 },
      λ l. h.1 ∙ ap (text_finding j) l.fault,
    )
    | inr h ↦ (
      λ e. absurd (let bad = sym h.1 ∙ e in cc),
      λ l. absurd (none_refused m j.events h.0 l.legal),
    )
  ]

  pub found_refused : (n : ℕ) (r : Refusal)
      → (finding_after m [] j ≡ Err (Refused n r)) ↔ IsFirstRefused m j n r
  found_refused n r = elim plays_on [
    | inl h ↦ (
      λ e. absurd (not_refused j j.fault n r (sym h.1 ∙ e)),
      λ f. absurd (none_refused m j.events (refused f) h.0),
    )
    | inr h ↦ (
      λ e.
          let both = sym h.1 ∙ e in
          let line : h.0.line ≡ n = cc in
          let why : h.0.why ≡ r = cc in
          record {
            index = h.0.index;
            event = h.0.event;
            at = h.0.at ∙ ap (λ (k : ℕ). Some (k, h.0.event)) line;
            before = h.0.before;
            refused = h.0.refused ∙ ap Some why;
          },
      λ f.
          let same = one_refused m j.events h.0 (refused f) in
          h.1 ∙ ap₂ (λ (k : ℕ) (why : Refusal). Err (Refused k why)) same.0 same.1,
    )
  ]
    where
      refused : IsFirstRefused m j n r → HasRefused m [] j.events
      refused f = record {
        line = n;
        why = r;
        index = f.index;
        event = f.event;
        at = f.at;
        before = f.before;
        refused = f.refused;
      }
