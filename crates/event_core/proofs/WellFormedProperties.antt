-- A log is well formed when its beginning is and its last event is legal after it; who has started stays so;
-- a run has one answer.
use Rattle.std.proofs.Common.{◌≡◌, ℕ, ◌<◌, List, [], ◌∷◌, ◌++◌, length, refl, sym, ap, subst, ◌∙◌, arith}
use Rattle.std.proofs.Common.{take, drop, slice_get, Some, None, true, nat_eq, suc, take-append-drop}
use Rattle.std.proofs.lemmas.Bool.{or_left, or_right, or_cases}
use Rattle.std.proofs.lemmas.List.{take-append-le}
use Rattle.std.proofs.lemmas.List.Folds.{list_any-append}
use Rattle.std.proofs.lemmas.Option.{slice_get_within}
use Rattle.std.proofs.Math.Seq.{take-append_seam, take-length}
use Rattle.std.specs.List.{list_any}
use mathlib.Core.Logic.{inl, inr}
use Rattle.event_core.proofs.Words.{ThreadId, Event, Call, Limits, Roots, OnlyMain, Free}
use Rattle.event_core.specs.declared.replies.Reply.{Reply}
use Rattle.event_core.specs.declared.replies.Outcome.{Outcome}
use Rattle.event_core.specs.declared.replies.Outcome.TheVariants.{Accepted, Refused}
use Rattle.event_core.specs.Refusal.{Legal, WellFormed, event_of, forked, forks}
use Rattle.event_core.specs.Verdict.{IsOutcome, log_after, IsRun}
use Rattle.event_core.proofs.DepthProperties.{take_event, each_front}
use Rattle.event_core.proofs.RelationsStay.{longer}
use Rattle.event_core.proofs.BelowProperties.{verdict_is_unique}
use Rattle.event_core.proofs.Places.{get_last, front_or_last}

-- a beginning of a well-formed log is well formed
pub well_formed_front : (m : Limits) (log more : List Event) → WellFormed m (log ++ more) → WellFormed m log
well_formed_front m log more w = record { legal = legal }
  where
    legal : (i : ℕ) (e : Event) → slice_get log i ≡ Some e → Legal m (take i log) e
    legal i e at =
        let lt : i < length log = slice_get_within log i e at in
        subst (λ xs. Legal m xs e) (take-append-le i log more (omega arith))
        (w.legal i e (sym ((longer log more).events i lt) ∙ at))

-- the last event of a well-formed log is legal after the others
pub well_formed_last : (m : Limits) (log : List Event) (e : Event) → WellFormed m (log ++ e ∷ [])
    → Legal m log e
well_formed_last m log e w =
    subst (λ xs. Legal m xs e) (take-append_seam log (e ∷ [])) (w.legal (length log) e (get_last log e))

-- a well-formed log with one more legal event is well formed
pub well_formed_grown : (m : Limits) (log : List Event) (e : Event) → WellFormed m log → Legal m log e
    → WellFormed m (log ++ e ∷ [])
well_formed_grown m log e w l = record {
  legal = λ i x at. elim (front_or_last log e i x at) [
    | inl old ↦
        let lt = slice_get_within log i x old in
        subst (λ xs. Legal m xs x) (sym (take-append-le i log (e ∷ []) (omega arith))) (w.legal i x old)
    | inr new ↦
        subst (Legal m (take i (log ++ e ∷ []))) (sym new.1)
        (subst (λ xs. Legal m xs e)
        (sym (ap (λ k. take k (log ++ e ∷ [])) new.0 ∙ take-append_seam log (e ∷ []))) l)
  ];
}

-- a beginning of a well-formed log is well formed
pub formed_take : (m : Limits) (log : List Event) (k : ℕ) → WellFormed m log → WellFormed m (take k log)
formed_take m log k w =
    well_formed_front m (take k log) (drop k log) (subst (WellFormed m) (sym (take-append-drop k log)) w)

-- what is so of no events, and stays so as a well-formed log grows, is so of each well-formed log
pub each_formed : (P : List Event → Type 0) (m : Limits) (log : List Event) → WellFormed m log → P []
    → ((xs : List Event) (e : Event) → WellFormed m (xs ++ e ∷ []) → P xs → P (xs ++ e ∷ [])) → P log
each_formed P m log w none more =
    subst P (take-length log)
    (each_front P log none (λ i e at h. more (take i log) e
    (subst (WellFormed m) (take_event log i e at) (formed_take m log (suc i) w)) h) (length log))

-- who has started has started in every longer log
pub still_forked : (r : Roots) (log more : List Event) (u : ThreadId) → forked r log u ≡ true
    → forked r (log ++ more) u ≡ true
still_forked Free log more u h = refl
still_forked OnlyMain log more u h = elim (or_cases (nat_eq u.0 0) (list_any (forks u) log) h) [
  | inl t ↦ or_left _ _ t
  | inr t ↦ or_right (nat_eq u.0 0) _ (list_any-append (forks u) log more ∙ or_left _ _ t)
]

same_reply : (a b : Reply) → a.index ≡ b.index → a.value ≡ b.value → a.verdict ≡ b.verdict → a ≡ b
same_reply a b p q r = λ i. record { index = p i; value = q i; verdict = r i }

-- a call has one outcome, and a run one list of them
pub outcome_is_unique : (m : Limits) (log : List Event) (c : Call) (a b : Outcome) → IsOutcome m log c a
    → IsOutcome m log c b → a ≡ b
outcome_is_unique m log c (Refused r) (Refused s) p q = let same : Some r ≡ Some s = sym p ∙ q in cc
outcome_is_unique m log c (Refused r) (Accepted a) p q = absurd (let same : Some r ≡ None = sym p ∙ q.0 in cc)
outcome_is_unique m log c (Accepted a) (Refused s) p q = absurd (let same : Some s ≡ None = sym q ∙ p.0 in cc)
outcome_is_unique m log c (Accepted a) (Accepted b) p q =
    let index : a.index ≡ b.index = p.1 ∙ sym q.1 in
    let value : a.value ≡ b.value = p.2 ∙ sym q.2 in
    let verdict : a.verdict ≡ b.verdict
    = verdict_is_unique (log ++ event_of log c ∷ []) (length log) a.verdict b.verdict p.3 q.3 in
    ap Accepted (same_reply a b index value verdict)

-- a list of calls has one run
pub run_is_unique : (m : Limits) (log : List Event) (cs : List Call) (os bs : List Outcome) (x y : List Event)
    → IsRun m log cs os x → IsRun m log cs bs y → (os ≡ bs) × (x ≡ y)
run_is_unique m log [] [] [] x y p q = (refl, p ∙ sym q)
run_is_unique m log (c ∷ cs) (a ∷ os') (b ∷ bs) x y p q =
    let same : a ≡ b = outcome_is_unique m log c a b p.0 q.0 in
    let q' : IsRun m (log_after log c a) cs bs y
    = subst (λ o. IsRun m (log_after log c o) cs bs y) (sym same) q.1 in
    let rest = run_is_unique m (log_after log c a) cs os' bs x y p.1 q' in
    (let whole : a ∷ os' ≡ b ∷ bs = cc in whole, rest.1)
run_is_unique m log [] (a ∷ os') bs x y p q = absurd p
run_is_unique m log (c ∷ cs) [] bs x y p q = absurd p
run_is_unique m log _ _ _ x y p q = absurd q
