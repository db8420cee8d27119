-- The calls of lines, made one after another: each is allowed, or there is a first that is refused.
use Rattle.std.proofs.Common.{◌≡◌, ◌⊎◌, inl, inr, ℕ, ◌<◌, suc, List, [], ◌∷◌, ◌++◌, Option, Some, None}
use Rattle.std.proofs.Common.{Result, Err, refl, sym, ap, ap₂, subst, ◌∙◌, append_assoc, append-nil, take}
use Rattle.std.proofs.Common.{slice_get, arith}
use Rattle.std.specs.Prelude.{option_map}
use Rattle.std.proofs.lemmas.Bool.{cases_lt}
use Rattle.std.proofs.lemmas.List.{take-take}
use Rattle.std.proofs.lemmas.Option.{same_Some, slice_get-map}
use Rattle.event_core.specs.declared.bounds.Limits.{Limits}
use Rattle.event_core.specs.declared.events.Event.{Event}
use Rattle.event_core.specs.declared.events.Call.{Call}
use Rattle.event_core.specs.declared.replies.Refusal.{Refusal}
use Rattle.event_core.specs.Refusal.{refusal, WellFormed, event_of}
use Rattle.event_core.proofs.WellFormedProperties.{well_formed_grown}
use Rattle.event_core.proofs.OrderlyProperties.{at_take}
use Rattle.trace_report.specs.declared.faults.TraceFault.{TraceFault}
use Rattle.trace_report.specs.declared.faults.TraceFault.TheVariants.{Refused}
use Rattle.trace_report.specs.Findings.{Trace, call_of, log_of, played, refused_or}
use Rattle.trace_report.proofs.Values.{StoreNothing, event_is, nothing_more}

-- the event of this line is refused after the log and the lines before it, which make a well-formed log
pub record HasRefused (m : Limits) (log : List Event) (ps : List (ℕ × Event)) : Type 0 where
  pub line : ℕ
  pub why : Refusal
  pub index : ℕ
  pub event : Event
  pub at : slice_get ps index ≡ Some (line, event)
  pub before : WellFormed m (log ++ take index (log_of ps))
  pub refused : refusal m (log ++ take index (log_of ps)) (call_of event) ≡ Some why

-- what the calls of the lines come to after the log, where `end` tells what their whole log comes to
abbrev pub IsPlayed : Limits → List Event → List (ℕ × Event) → (List Event → Result Trace TraceFault) → Type 0
IsPlayed m log ps end =
    (WellFormed m (log ++ log_of ps) × (played m log ps end ≡ end (log ++ log_of ps)))
    ⊎ ((f : HasRefused m log ps) × (played m log ps end ≡ Err (Refused f.line f.why)))

pub plays : (m : Limits) (ps : List (ℕ × Event)) (log : List Event)
    (end : List Event → Result Trace TraceFault) → StoreNothing log
    → StoreNothing (log_of ps) → WellFormed m log → IsPlayed m log ps end
plays m [] log end z zs w =
    let all = sym (append-nil log) in
    inl (subst (λ (l : List Event). WellFormed m l) all w, ap end all)
plays m (p ∷ ps) log end z zs w =
    go (refusal m log (call_of p.1)) refl (λ allowed.
    plays m ps (log ++ p.1 ∷ []) end (nothing_more log p.1 z zs.0) zs.1
    (well_formed_grown m log p.1 w (record { call = call_of p.1; allowed = allowed; is = sym is })))
  where
    is : event_of log (call_of p.1) ≡ p.1
    is = event_is log p.1 z zs.0

    longer : (xs : List Event) → (log ++ p.1 ∷ []) ++ xs ≡ log ++ p.1 ∷ xs
    longer xs = append_assoc log (p.1 ∷ []) xs

    step : (o : Option Refusal) → refusal m log (call_of p.1) ≡ o
        → played m log (p ∷ ps) end ≡ refused_or p.0 o (played m (log ++ p.1 ∷ []) ps end)
    step o why = ap₂ (λ (r : Option Refusal) (e : Event).
        refused_or p.0 r (played m (log ++ e ∷ []) ps end)) why is

    later : refusal m log (call_of p.1) ≡ None → IsPlayed m (log ++ p.1 ∷ []) ps end
        → IsPlayed m log (p ∷ ps) end
    later allowed (inl h) = inl (
      subst (λ (l : List Event). WellFormed m l) (longer (log_of ps)) h.0,
      step None allowed ∙ h.1 ∙ ap end (longer (log_of ps)),
    )
    later allowed (inr h) =
        let f = h.0 in
        let same = longer (take f.index (log_of ps)) in
        inr (
          record {
            line = f.line;
            why = f.why;
            index = suc f.index;
            event = f.event;
            at = f.at;
            before = subst (λ (l : List Event). WellFormed m l) same f.before;
            refused = subst (λ (l : List Event). refusal m l (call_of f.event) ≡ Some f.why) same f.refused;
          },
          step None allowed ∙ h.1,
        )

    go : (o : Option Refusal) → refusal m log (call_of p.1) ≡ o
        → (refusal m log (call_of p.1) ≡ None → IsPlayed m (log ++ p.1 ∷ []) ps end)
        → IsPlayed m log (p ∷ ps) end
    go None allowed rest = later allowed (rest allowed)
    go (Some r) why rest =
        let all = sym (append-nil log) in
        inr (
          record {
            line = p.0;
            why = r;
            index = 0;
            event = p.1;
            at = refl;
            before = subst (λ (l : List Event). WellFormed m l) all w;
            refused = subst (λ (l : List Event). refusal m l (call_of p.1) ≡ Some r) all why;
          },
          step (Some r) why,
        )

pub empty_legal : (m : Limits) → WellFormed m []
empty_legal m = record { legal = λ i e at. absurd (let bad : None ≡ Some e = at in cc) }

-- ---- one line at most is the first that is refused

-- a refusal looks at the thread and the operation alone
refusal_of_event : (m : Limits) (log : List Event) (c : Call)
    → refusal m log (call_of (event_of log c)) ≡ refusal m log c
unfolding refusal
refusal_of_event m log c = refl

-- an event of a well-formed log is not refused after those before it
is_allowed : (m : Limits) (log : List Event) (i : ℕ) (e : Event) → WellFormed m log → slice_get log i ≡ Some e
    → refusal m (take i log) (call_of e) ≡ None
is_allowed m log i e w at =
    let l = w.legal i e at in
    subst (λ (x : Event). refusal m (take i log) (call_of x) ≡ None) (sym l.is)
    (refusal_of_event m (take i log) l.call ∙ l.allowed)

module _ (m : Limits) (ps : List (ℕ × Event)) where
  in_log : (f : HasRefused m [] ps) → slice_get (log_of ps) f.index ≡ Some f.event
  in_log f = slice_get-map (λ (p : ℕ × Event). p.1) ps f.index ∙ ap (option_map (λ (p : ℕ × Event). p.1)) f.at

  -- a well-formed log has none
  pub none_refused : HasRefused m [] ps → WellFormed m (log_of ps) → ⊥
  none_refused f w =
      let bad : None ≡ Some f.why = sym (is_allowed m (log_of ps) f.index f.event w (in_log f)) ∙ f.refused in
      cc

  not_earlier : (f g : HasRefused m [] ps) → f.index < g.index → ⊥
  not_earlier f g lt =
      let allowed = is_allowed m (take g.index (log_of ps)) f.index f.event g.before
      (at_take (log_of ps) f.index g.index f.event lt (in_log f)) in
      let same = take-take f.index g.index (log_of ps) (omega arith) in
      let bad : None ≡ Some f.why =
      sym allowed ∙ ap (λ (l : List Event). refusal m l (call_of f.event)) same ∙ f.refused in
      cc

  pub one_refused : (f g : HasRefused m [] ps) → (f.line ≡ g.line) × (f.why ≡ g.why)
  one_refused f g = elim (cases_lt f.index g.index) [
    | inl before ↦ absurd (not_earlier f g before)
    | inr past ↦ elim (cases_lt g.index f.index) [
      | inl after ↦ absurd (not_earlier g f after)
      | inr equal ↦
          let place : f.index ≡ g.index = omega arith in
          let line : (f.line, f.event) ≡ (g.line, g.event) =
          same_Some (f.line, f.event) (g.line, g.event) (sym f.at ∙ ap (slice_get ps) place ∙ g.at) in (
            ap (λ (p : ℕ × Event). p.0) line,
            same_Some f.why g.why (sym f.refused
                ∙ ap₂ (λ (i : ℕ) (e : Event). refusal m (take i (log_of ps)) (call_of e)) place
                (ap (λ (p : ℕ × Event). p.1) line) ∙ g.refused),
          )
    ]
  ]
