-- Each well-formed log is orderly.
use Rattle.std.proofs.Common.{◌≡◌, ℕ, suc, zero, ◌<◌, ◌≤◌, List, [], ◌∷◌, ◌++◌, Bool, true, false, drop, refl}
use Rattle.std.proofs.Common.{sym, ap, subst, ◌∙◌, arith, take, cond, not, nat_lt, nat_eq, option_and_then}
use Rattle.std.proofs.Common.{Option, Some, None, slice_get, if◌then◌else◌, nat_le, take-append-drop}
use Rattle.std.proofs.lemmas.Bool.{cases_order, cases_Bool, eqb-true, eq-eqb, lt-ltb, ltb-true, both_ways}
use Rattle.std.proofs.lemmas.Bool.{or_parts, or_cases, or_left, and_right, cond-true, cond-false, not-false}
use Rattle.std.proofs.lemmas.List.{take-take}
use Rattle.std.proofs.lemmas.List.Folds.{list_any-append}
use Rattle.std.proofs.lemmas.Map.Keys.{any_passes_from_place}
use Rattle.std.proofs.lemmas.Option.{cond_some, option_and_then_some}
use Rattle.std.specs.List.{list_any}
use Rattle.std.specs.Option.{option_or}
use mathlib.Core.Logic.{inl, inr}
use Rattle.event_core.proofs.Words.{ThreadId, LockId, Event, Limits, Roots, OnlyMain, Free, Refusal}
use Rattle.event_core.proofs.Words.{ThreadRange, NotStarted, Ended, TargetRange, Held, NotHolder, SelfTarget}
use Rattle.event_core.proofs.Words.{AlreadyStarted, Op, Acquire, Release, Fork}
use Rattle.event_core.specs.Log.{Does, Of, depth, acquires, op_acquires}
use Rattle.event_core.specs.Refusal.{refusal, reasons, first_of, when, held, held_by, holder, is_holder}
use Rattle.event_core.specs.Refusal.{last_acquirer, not_holder, self_target, already_started, known, forked}
use Rattle.event_core.specs.Refusal.{in_range, forks, joins, mentions, Legal, WellFormed, log_full}
use Rattle.event_core.specs.Orderly.{Orderly}
use Rattle.event_core.proofs.DepthProperties.{same_thread_id, each_front, acquires_is, op_acquires_is}
use Rattle.event_core.proofs.DepthProperties.{depth_nil, not_risen}
use Rattle.event_core.proofs.LogProperties.{of_does, of_one}

-- none of the reasons that the laws need applies
pub record Reasons (m : Limits) (log : List Event) (u : ThreadId) (o : Op) : Type 0 where
  pub thread_on_table : when (nat_le m.threads u.0) ThreadRange ≡ None
  pub may_act : when (not (forked m.roots log u)) NotStarted ≡ None
  pub not_ended : when (list_any (joins u) log) Ended ≡ None
  pub on_table : when (not (in_range m o)) TargetRange ≡ None
  pub no_holder : held log u o ≡ None
  pub holds : not_holder log u o ≡ None
  pub no_self : self_target u o ≡ None
  pub not_known : already_started m log o ≡ None
  pub fits : log_full m log o ≡ None

-- each reason is none
unfoldable pub AllNone : List (Option Refusal) → Type 0
AllNone [] = Unit {0}
AllNone (o ∷ os) = (o ≡ None) × AllNone os

-- where the first reason is none, each is none
pub all_none : (os : List (Option Refusal)) → first_of os ≡ None → AllNone os
unfolding AllNone
all_none [] h = tt
all_none (None ∷ os) h = (refl, all_none os h)
all_none (Some r ∷ os) h = absurd (cc)

-- a reason that does not apply has a test that is false
pub when_none : (b : Bool) (r : Refusal) → when b r ≡ None → b ≡ false
when_none true r h = absurd (cc)
when_none false r h = refl

-- no reason applies to a legal event
pub legal_reasons : (m : Limits) (log : List Event) (e : Event) → Legal m log e → Reasons m log e.thread e.op
unfolding refusal AllNone
legal_reasons m log e legal =
    let c = legal.call in
    let r : AllNone (reasons m log c) = all_none (reasons m log c) legal.allowed in
    let at_call : Reasons m log c.thread c.op
    = record {
      thread_on_table = r.0;
      may_act = r.1.0;
      not_ended = r.1.1.0;
      on_table = r.1.1.1.0;
      no_holder = r.1.1.1.1.0;
      holds = r.1.1.1.1.1.0;
      no_self = r.1.1.1.1.1.1.0;
      not_known = r.1.1.1.1.1.1.1.0;
      fits = r.1.1.1.1.1.1.1.1.1.0;
    } in
    subst (λ (x : Event). Reasons m log x.thread x.op) (sym legal.is) at_call

-- no reason applies to an event of a well-formed log, at its place
pub reasons_at : (m : Limits) (log : List Event) (i : ℕ) (u : ThreadId) (o : Op) → WellFormed m log
    → Does log i u o → Reasons m (take i log) u o
reasons_at m log i u o w d =
    let r : Reasons m (take i log) d.event.thread d.event.op
    = legal_reasons m (take i log) d.event (w.legal i d.event d.at) in
    subst (λ x. Reasons m (take i log) u x) d.does
    (subst (λ x. Reasons m (take i log) x d.event.op) d.thread r)

-- the holder holds
pub holder_depth : (log : List Event) (l : LockId) (v : ThreadId) → holder log l ≡ Some v → 0 < depth log v l
unfolding holder
holder_depth log l v h = option_and_then_some _ (last_acquirer log l) v h (λ u is e.
    let p = cond_some (nat_lt 0 (depth log u l)) u v e in
    subst (λ x. 0 < depth log x l) p.1 (ltb-true 0 (depth log u l) p.0))

-- the last acquirer, while its depth is not 0, is the holder
pub holder_is : (log : List Event) (l : LockId) (u : ThreadId) → last_acquirer log l ≡ Some u
    → 0 < depth log u l → holder log l ≡ Some u
unfolding holder
holder_is log l u e lt =
    ap (option_and_then (λ (v : ThreadId). if nat_lt 0 (depth log v l) then Some v else None)) e
    ∙ cond-true (nat_lt 0 (depth log u l)) (Some u) None (lt-ltb 0 (depth log u l) lt)

-- who may acquire a lock that is held is its holder
pub own_again : (u v : ThreadId) → held_by (Some u) v ≡ None → u ≡ v
own_again u v free = same_thread_id (eqb-true u.0 v.0 (not-false _ (when_none _ (Held u) free)))

pub held_at : (m : Limits) (log : List Event) (r : ℕ) (u : ThreadId) (l : LockId) → WellFormed m log
    → Does log r u (Release l) → 0 < depth (take r log) u l
held_at m log r u l w d =
    go (holder (take r log) l) refl
    (not-false _ (when_none _ NotHolder (reasons_at m log r u (Release l) w d).holds))
  where
    go : (h : Option ThreadId) → holder (take r log) l ≡ h → is_holder h u ≡ true
        → 0 < depth (take r log) u l
    go None e t = absurd (cc)
    go (Some v) e t =
        subst (λ x. 0 < depth (take r log) x l) (same_thread_id (eqb-true v.0 u.0 t))
        (holder_depth (take r log) l v e)

-- the last acquire after one more event
pub acquirer_snoc : (xs : List Event) (e : Event) (l : LockId)
    → last_acquirer (xs ++ e ∷ []) l ≡ cond (op_acquires l e.op) (Some e.thread) (last_acquirer xs l)
unfolding last_acquirer
acquirer_snoc [] e l = refl
acquirer_snoc (x ∷ xs) e l =
    ap (λ o. option_or o (if op_acquires l x.op then Some x.thread else None)) (acquirer_snoc xs e l)
    ∙ out (op_acquires l e.op) (last_acquirer xs l) (if op_acquires l x.op then Some x.thread else None)
  where
    out : (b : Bool) (o p : Option ThreadId)
        → option_or (cond b (Some e.thread) o) p ≡ cond b (Some e.thread) (option_or o p)
    out true o p = refl
    out false o p = refl

-- the thread that holds a lock made its last acquire
pub held_last : (m : Limits) (log : List Event) (u : ThreadId) (l : LockId) → WellFormed m log → (k : ℕ)
    → 0 < depth (take k log) u l → last_acquirer (take k log) l ≡ Some u
held_last m log u l w =
    each_front (λ xs. 0 < depth xs u l → last_acquirer xs l ≡ Some u) log
    (λ h. absurd (let z : depth [] u l ≡ 0 = depth_nil log u l in omega arith)) more
  where
    more : (i : ℕ) (e : Event) → slice_get log i ≡ Some e
        → (0 < depth (take i log) u l → last_acquirer (take i log) l ≡ Some u)
        → 0 < depth (take i log ++ e ∷ []) u l → last_acquirer (take i log ++ e ∷ []) l ≡ Some u
    more i e at ih after = elim (cases_Bool (op_acquires l e.op)) [
      | inl t ↦
          let mine : e.thread ≡ u = elim (cases_Bool (acquires u l e)) [
            | inl a ↦ (acquires_is u l e a).0
            | inr f ↦ sym (own (op_acquires_is l e.op t) (before f))
          ] in
          acquirer_snoc xs e l ∙ cond-true _ _ _ t ∙ ap Some mine
      | inr f ↦ acquirer_snoc xs e l ∙ cond-false _ _ _ f ∙ ih (before (and_right _ _ f))
    ]
      where
        xs : List Event
        xs = take i log

        before : acquires u l e ≡ false → 0 < depth xs u l
        before none = let le = not_risen xs e u l none in omega (arith, after)

        own : e.op ≡ Acquire l → 0 < depth xs u l → u ≡ e.thread
        own op up =
            let r = legal_reasons m xs e (w.legal i e at) in
            let free : held_by (holder xs l) e.thread ≡ None
            = subst (λ o. held xs e.thread o ≡ None) op r.no_holder in
            own_again u e.thread
            (subst (λ o. held_by o e.thread ≡ None) (holder_is xs l u (ih up) up) free)

pub one_holder : (m : Limits) (log : List Event) → WellFormed m log → (k : ℕ) (u v : ThreadId) (l : LockId)
    → 0 < depth (take k log) u l → 0 < depth (take k log) v l → u ≡ v
one_holder m log w k u v l p q =
    let a = held_last m log u l w k p in let b = held_last m log v l w k q in let same : Some u ≡ Some v
    = sym a ∙ b in cc

-- what passes in a beginning passes in a longer one
any_take : (p : Event → Bool) (xs : List Event) (i k : ℕ) → i ≤ k → list_any p (take i xs) ≡ true
    → list_any p (take k xs) ≡ true
any_take p xs i k le h =
    subst (λ ys. list_any p ys ≡ true) (take-append-drop i (take k xs))
    (list_any-append p (take i (take k xs)) (drop i (take k xs))
    ∙ or_left _ _ (ap (list_any p) (take-take i k xs le) ∙ h))

-- an event before index k is among the log's first k
pub at_take : (xs : List Event) (i k : ℕ) (e : Event) → i < k → slice_get xs i ≡ Some e
    → slice_get (take k xs) i ≡ Some e
at_take [] i k e lt at = absurd (cc)
at_take (x ∷ xs) i zero e lt at = absurd (omega arith)
at_take (x ∷ xs) zero (suc k) e lt at = at
at_take (x ∷ xs) (suc i) (suc k) e lt at = at_take xs i k e (omega arith) at

-- a fork of a thread is before all its events
pub fork_first : (m : Limits) (log : List Event) → WellFormed m log → (g k : ℕ) (u v : ThreadId)
    → Does log g v (Fork u) → Of log k u → g < k
fork_first m log w g k u v d o = elim (cases_order g k) [
  | inl same ↦ absurd (both_ways _ (when_none _ SelfTarget r.no_self)
      (eq-eqb _ _ (ap (λ (t : ThreadId). t.0) (of_one o (subst (λ i. Of log i v) same (of_does d))))))
  | inr a ↦ elim a [
    | inl lt ↦ lt
    | inr gt ↦ absurd (late m.roots gt (when_none _ AlreadyStarted r.not_known) may)
  ]
]
  where
    r : Reasons m (take g log) v (Fork u)
    r = reasons_at m log g v (Fork u) w d

    may : forked m.roots (take k log) u ≡ true
    may =
        let s = legal_reasons m (take k log) o.event (w.legal k o.event o.at) in
        subst (λ t. forked m.roots (take k log) t ≡ true) o.thread
        (not-false _ (when_none _ NotStarted s.may_act))

    late : (roots : Roots) → k < g → known roots (take g log) u ≡ false
        → forked roots (take k log) u ≡ true → ⊥
    late Free lt a b =
        both_ways _ a
        (any_passes_from_place (mentions u) (take g log) k o.event (at_take log k g o.event lt o.at)
        (or_left _ _ (eq-eqb _ _ (ap (λ (t : ThreadId). t.0) o.thread))))
    late OnlyMain lt a b =
        let p : (nat_eq u.0 0 ≡ false) × (list_any (forks u) (take g log) ≡ false) = or_parts _ _ a in
        elim (or_cases (nat_eq u.0 0) (list_any (forks u) (take k log)) b) [
          | inl t ↦ both_ways _ p.0 t
          | inr t ↦ both_ways _ p.1 (any_take (forks u) log k g (omega arith) t)
        ]

-- each well-formed log is orderly
pub orderly : (m : Limits) (log : List Event) → WellFormed m log → Orderly log
orderly m log w = record {
  one_holder = one_holder m log w;
  held_at_release = λ r u l d. held_at m log r u l w d;
  fork_first = fork_first m log w;
}
