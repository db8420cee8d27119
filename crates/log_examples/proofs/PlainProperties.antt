-- A log that is well formed where no lock is acquired again is so by the re-entrant rule, and all its
-- acquires and releases are outer.
use Rattle.std.proofs.Common.{◌≡◌, ℕ, suc, zero, ◌<◌, ◌≤◌, ◌+◌, List, [], ◌∷◌, ◌++◌, Bool, true, false}
use Rattle.std.proofs.Common.{length, refl, sym, ap, subst, ◌∙◌, arith, take, cond, ◌⊎◌, get_or, not, nat_eq}
use Rattle.std.proofs.Common.{count_by, Option, Some, None, slice_get, ap₂}
use Rattle.std.proofs.lemmas.Bool.{cases_Bool, eqb-true, eq-eqb, cond-true, cond-false, and_parts}
use Rattle.std.proofs.lemmas.Option.{slice_get_within, slice_get_cases}
use mathlib.Core.Logic.{inl, inr}
use Rattle.event_core.specs.declared.ids.ThreadId.{ThreadId}
use Rattle.event_core.specs.declared.ids.LockId.{LockId}
use Rattle.event_core.specs.declared.events.Event.{Event}
use Rattle.event_core.specs.declared.bounds.Limits.{Limits}
use Rattle.event_core.specs.declared.replies.Refusal.{Refusal}
use Rattle.event_core.specs.declared.replies.Refusal.TheVariants.{Held, NotHolder}
use Rattle.event_core.specs.declared.events.Op.{Op}
use Rattle.event_core.specs.declared.events.Op.TheVariants.{Acquire, Release}
use Rattle.event_core.specs.Log.{Does, depth, acquires, releases, op_acquires, op_releases, OuterAcquire}
use Rattle.event_core.specs.Log.{OuterRelease}
use Rattle.event_core.specs.Refusal.{refusal, reasons, first_of, when, held, held_by, holder, is_holder}
use Rattle.event_core.specs.Refusal.{last_acquirer, not_holder, full_with, held_depths, lock_depth, depth_by}
use Rattle.event_core.specs.Refusal.{sum_locks, lock_at, Legal, WellFormed, event_of}
use Rattle.log_examples.specs.Plain.{plain_holder, plain_holder_from, holder_after, held_by_any, plain_held}
use Rattle.log_examples.specs.Plain.{plain_not_holder, plain_reasons, plain_refusal, held_one}
use Rattle.log_examples.specs.Plain.{plain_held_locks}
use Rattle.log_examples.specs.Plain.{PlainLegal, PlainWellFormed}
use Rattle.event_core.proofs.DepthProperties.{same_thread_id, thread_cases, take_event, count_snoc}
use Rattle.event_core.proofs.DepthProperties.{acquires_is, op_acquires_is, op_releases_is}
use Rattle.event_core.proofs.InsideProperties.{releases_is, not_both, does_release, does_acquire}
use Rattle.event_core.proofs.OrderlyProperties.{when_none, acquirer_snoc, AllNone, all_none, holder_depth}
use Rattle.event_core.proofs.OrderlyProperties.{holder_is}

-- who holds the lock, in the terms of both rules
State : Option ThreadId → List Event → LockId → Type 0
State None xs l = (u : ThreadId) → count_by (acquires u l) xs ≡ count_by (releases u l) xs
State (Some v) xs l =
    (last_acquirer xs l ≡ Some v) × (count_by (acquires v l) xs ≡ count_by (releases v l) xs + 1)
    × ((u : ThreadId) → (u ≡ v → ⊥) → count_by (acquires u l) xs ≡ count_by (releases u l) xs)

holder_snoc : (h : Option ThreadId) (xs : List Event) (e : Event) (l : LockId)
    → plain_holder_from h (xs ++ e ∷ []) l ≡ holder_after (plain_holder_from h xs l) e l
holder_snoc h [] e l = refl
holder_snoc h (x ∷ xs) e l = holder_snoc (holder_after h x l) xs e l

record PlainParts (m : Limits) (xs : List Event) (e : Event) : Type 0 where
  pub unheld : plain_held xs e.op ≡ None
  pub holds : plain_not_holder xs e.thread e.op ≡ None

parts : (m : Limits) (xs : List Event) (e : Event) → PlainLegal m xs e → PlainParts m xs e
unfolding plain_refusal AllNone
parts m xs e legal =
    let r : AllNone (plain_reasons m xs legal.call)
    = all_none (plain_reasons m xs legal.call) legal.allowed in
    let at_call : PlainParts m xs (event_of xs legal.call)
    = record { unheld = r.1.1.1.1.0; holds = r.1.1.1.1.1.0 } in
    subst (λ (x : Event). PlainParts m xs x) (sym legal.is) at_call

-- what one event does to the counts of a lock
count_a : (u : ThreadId) (l : LockId) (xs : List Event) (e : Event) (b : Bool) → acquires u l e ≡ b
    → count_by (acquires u l) (xs ++ e ∷ []) ≡ count_by (acquires u l) xs + cond b 1 0
count_a u l xs e b h =
    count_snoc (acquires u l) xs e ∙ ap (λ (t : Bool). count_by (acquires u l) xs + cond t 1 0) h

count_r : (u : ThreadId) (l : LockId) (xs : List Event) (e : Event) (b : Bool) → releases u l e ≡ b
    → count_by (releases u l) (xs ++ e ∷ []) ≡ count_by (releases u l) xs + cond b 1 0
count_r u l xs e b h =
    count_snoc (releases u l) xs e ∙ ap (λ (t : Bool). count_by (releases u l) xs + cond t 1 0) h

even : (u : ThreadId) (l : LockId) (xs : List Event) (e : Event) → acquires u l e ≡ false
    → releases u l e ≡ false
    → count_by (acquires u l) xs ≡ count_by (releases u l) xs
    → count_by (acquires u l) (xs ++ e ∷ []) ≡ count_by (releases u l) (xs ++ e ∷ [])
even u l xs e a r h = let x = count_a u l xs e false a in let y = count_r u l xs e false r in omega arith

false_from : (b : Bool) → (b ≡ true → ⊥) → b ≡ false
false_from true h = absurd (h refl)
false_from false h = refl

both_off : (u : ThreadId) (l : LockId) (e : Event) → (u ≡ e.thread → ⊥)
    → (acquires u l e ≡ false) × (releases u l e ≡ false)
both_off u l e other = (
  false_from _ (λ t. other (sym (acquires_is u l e t).0)),
  false_from _ (λ t. other (sym (releases_is u l e t).0)),
)

after_acquire : (m : Limits) (xs : List Event) (e : Event) (l : LockId) → e.op ≡ Acquire l
    → (h : Option ThreadId) → State h xs l → held_by_any h ≡ None → State (Some e.thread) (xs ++ e ∷ []) l
unfolding State
after_acquire m xs e l op (Some v) s n = absurd (cc)
after_acquire m xs e l op None s n =
    let test : op_acquires l e.op ≡ true = ap (op_acquires l) op ∙ eq-eqb l.0 l.0 refl in
    let it_does : acquires e.thread l e ≡ true = does_acquire e.thread l e refl op in
    let x = count_a e.thread l xs e true it_does in
    let y = count_r e.thread l xs e false (not_both e.thread l e it_does) in
    let z = s e.thread in (
      acquirer_snoc xs e l
          ∙ cond-true _ _ _ test,
      omega arith,
      λ u other. even u l xs e (both_off u l e other).0
          (both_off u l e other).1 (s u),
    )

after_release : (m : Limits) (xs : List Event) (e : Event) (l : LockId) → e.op ≡ Release l
    → (h : Option ThreadId) → State h xs l → not (is_holder h e.thread) ≡ false → State None (xs ++ e ∷ []) l
unfolding State
after_release m xs e l op None s n = absurd (cc)
after_release m xs e l op (Some v) s n = by_own (cases_Bool (nat_eq v.0 e.thread.0)) n
  where
    it_does : releases e.thread l e ≡ true
    it_does = does_release e.thread l e refl op

    own : v ≡ e.thread → (u : ThreadId) → (u ≡ v) ⊎ (u ≡ v → ⊥)
        → count_by (acquires u l) (xs ++ e ∷ []) ≡ count_by (releases u l) (xs ++ e ∷ [])
    own same u (inr other) =
        let off = both_off u l e (λ q. other (q ∙ sym same)) in even u l xs e off.0 off.1 (s.2 u other)
    own same u (inl is) =
        subst (λ t. count_by (acquires t l) (xs ++ e ∷ []) ≡ count_by (releases t l) (xs ++ e ∷ []))
        (sym (is ∙ same)) (
        let z : count_by (acquires e.thread l) xs ≡ count_by (releases e.thread l) xs + 1
        = subst (λ t. count_by (acquires t l) xs ≡ count_by (releases t l) xs + 1) same s.1 in
        let none : acquires e.thread l e ≡ false
        = false_from _ (λ t. let o : e.op ≡ Acquire l = (acquires_is e.thread l e t).1 in
        let clash : Acquire l ≡ Release l = sym o ∙ op in cc) in
        let x = count_a e.thread l xs e false none in
        let y = count_r e.thread l xs e true it_does in
        omega arith)

    by_own : (nat_eq v.0 e.thread.0 ≡ true) ⊎ (nat_eq v.0 e.thread.0 ≡ false)
        → not (nat_eq v.0 e.thread.0) ≡ false → State None (xs ++ e ∷ []) l
    by_own (inl t) q = λ u. own (same_thread_id (eqb-true v.0 e.thread.0 t)) u (thread_cases u v)
    by_own (inr f) q = absurd (let g : not (nat_eq v.0 e.thread.0) ≡ true = ap not f in cc)

after_other : (xs : List Event) (e : Event) (l : LockId) → op_acquires l e.op ≡ false
    → op_releases l e.op ≡ false → (h : Option ThreadId) → State h xs l → State h (xs ++ e ∷ []) l
unfolding State
after_other xs e l na nr h s = by_holder h s
  where
    off_a : (u : ThreadId) → acquires u l e ≡ false
    off_a u =
        false_from _ (λ t. let a : op_acquires l e.op ≡ true = (and_parts _ _ t).1 in
        let clash : true ≡ false = sym a ∙ na in cc)

    off_r : (u : ThreadId) → releases u l e ≡ false
    off_r u =
        false_from _ (λ t. let a : op_releases l e.op ≡ true = (and_parts _ _ t).1 in
        let clash : true ≡ false = sym a ∙ nr in cc)

    by_holder : (h : Option ThreadId) → State h xs l → State h (xs ++ e ∷ []) l
    by_holder None s = λ u. even u l xs e (off_a u) (off_r u) (s u)
    by_holder (Some v) s =
        let x = count_a v l xs e false (off_a v) in
        let y = count_r v l xs e false (off_r v) in
        let z = s.1 in (
          acquirer_snoc xs e l ∙ cond-false _ _ _ na
              ∙ s.0,
          omega arith,
          λ u other. even u l xs e (off_a u) (off_r u) (s.2 u other),
        )

state_step : (m : Limits) (xs : List Event) (e : Event) (l : LockId) → PlainLegal m xs e
    → State (plain_holder xs l) xs l → State (plain_holder (xs ++ e ∷ []) l) (xs ++ e ∷ []) l
unfolding plain_holder
state_step m xs e l legal s = by_acquire (cases_Bool (op_acquires l e.op)) (cases_Bool (op_releases l e.op))
  where
    p : PlainParts m xs e
    p = parts m xs e legal

    ys : List Event
    ys = xs ++ e ∷ []

    moved : (h : Option ThreadId) → holder_after (plain_holder_from None xs l) e l ≡ h → State h ys l
        → State (plain_holder_from None ys l) ys l
    moved h eq t = subst (λ o. State o ys l) (sym (holder_snoc None xs e l ∙ eq)) t

    by_acquire : (op_acquires l e.op ≡ true) ⊎ (op_acquires l e.op ≡ false)
        → (op_releases l e.op ≡ true) ⊎ (op_releases l e.op ≡ false)
        → State (plain_holder_from None ys l) ys l
    by_acquire (inl a) r =
        let op = op_acquires_is l e.op a in
        moved (Some e.thread) (cond-true _ _ _ a)
        (after_acquire m xs e l op _ s (subst (λ o. plain_held xs o ≡ None) op p.unheld))
    by_acquire (inr a) (inl r) =
        let op = op_releases_is l e.op r in
        moved None (cond-false _ _ _ a ∙ cond-true _ _ _ r)
        (after_release m xs e l op _ s
        (when_none _ NotHolder (subst (λ o. plain_not_holder xs e.thread o ≡ None) op p.holds)))
    by_acquire (inr a) (inr r) =
        moved _ (cond-false _ _ _ a ∙ cond-false _ _ _ r) (after_other xs e l a r _ s)

state_nil : (l : LockId) (log : List Event) → State (plain_holder (take 0 log) l) (take 0 log) l
unfolding State plain_holder
state_nil l log = λ u. refl

states : (m : Limits) (log : List Event) → PlainWellFormed m log → (l : LockId) (k : ℕ) → k ≤ length log
    → State (plain_holder (take k log) l) (take k log) l
states m log w l zero le = state_nil l log
states m log w l (suc k) le = go (slice_get_cases log k).1 (states m log w l k (omega arith))
  where
    go : (((e : Event) × (k < length log) × (slice_get log k ≡ Some e) × (get_or log k e ≡ e))
        ⊎ ((length log ≤ k) × (slice_get log k ≡ None)))
        → State (plain_holder (take k log) l) (take k log) l
        → State (plain_holder (take (suc k) log) l) (take (suc k) log) l
    go (inr past) s = absurd (let p : length log ≤ k = past.0 in omega arith)
    go (inl x) s =
        subst (λ ys. State (plain_holder ys l) ys l) (sym (take_event log k x.0 x.2))
        (state_step m (take k log) x.0 l (w.legal k x.0 x.2) s)

-- the same holder by both rules, where it matters
depth_of_none : (xs : List Event) (l : LockId) (h : Option ThreadId) → State h xs l → h ≡ None
    → (u : ThreadId) → depth xs u l ≡ 0
unfolding State depth
depth_of_none xs l None s e u = let z = s u in omega arith
depth_of_none xs l (Some v) s e u = absurd (cc)

holder_of_some : (xs : List Event) (l : LockId) (v : ThreadId) (h : Option ThreadId) → State h xs l
    → h ≡ Some v → holder xs l ≡ Some v
unfolding State depth
holder_of_some xs l v None s e = absurd (cc)
holder_of_some xs l v (Some t) s e =
    let same : t ≡ v = cc in
    subst (λ q. holder xs l ≡ Some q) same (holder_is xs l t s.0 (let z = s.1 in omega arith))

none_all : (os : List (Option Refusal)) → AllNone os → first_of os ≡ None
unfolding AllNone
none_all [] h = refl
none_all (None ∷ os) h = none_all os h.1
none_all (Some r ∷ os) h = absurd (let e = h.0 in cc)

held_too : (xs : List Event) (u : ThreadId) (o : Op) → ((l : LockId) → State (plain_holder xs l) xs l)
    → plain_held xs o ≡ None → held xs u o ≡ None
held_too xs u (Acquire l) s n = go (plain_holder xs l) refl n
  where
    go : (h : Option ThreadId) → plain_holder xs l ≡ h → held_by_any h ≡ None → held_by (holder xs l) u ≡ None
    go (Some v) e q = absurd (cc)
    go None e q = by_holder (holder xs l) refl
      where
        by_holder : (h : Option ThreadId) → holder xs l ≡ h → held_by (holder xs l) u ≡ None
        by_holder None f = ap (λ t. held_by t u) f
        by_holder (Some v) f =
            absurd (let a : 0 < depth xs v l = holder_depth xs l v f in
            let b : depth xs v l ≡ 0 = depth_of_none xs l _ (s l) e v in omega arith)
held_too xs u _ s n = refl

holds_too : (xs : List Event) (u : ThreadId) (o : Op) → ((l : LockId) → State (plain_holder xs l) xs l)
    → plain_not_holder xs u o ≡ None → not_holder xs u o ≡ None
holds_too xs u (Release l) s n = go (plain_holder xs l) refl n
  where
    go : (h : Option ThreadId) → plain_holder xs l ≡ h → when (not (is_holder h u)) NotHolder ≡ None
        → when (not (is_holder (holder xs l) u)) NotHolder ≡ None
    go None e q = absurd (cc)
    go (Some v) e q =
        subst (λ h. when (not (is_holder h u)) NotHolder ≡ None) (sym (holder_of_some xs l v _ (s l) e)) q
holds_too xs u _ s n = refl

-- a held lock has depth 1
one_deep : (xs : List Event) (l : LockId) (h : Option ThreadId) → State h xs l → lock_depth xs l ≡ held_one h
unfolding State depth lock_depth
one_deep xs l (Some v) s =
    let z = s.1 in
    let one : depth xs v l ≡ 1 = omega arith in
    ap (λ (o : Option ThreadId). depth_by o xs l) (holder_is xs l v s.0 (omega arith)) ∙ one
one_deep xs l None s = go (holder xs l)
  where
    go : (h : Option ThreadId) → depth_by h xs l ≡ 0
    go None = refl
    go (Some v) = let z = s v in omega arith

sum_same : (f g : LockId → ℕ) → ((l : LockId) → f l ≡ g l) → (n : ℕ) → sum_locks f n ≡ sum_locks g n
sum_same f g each zero = refl
sum_same f g each (suc n) = ap₂ (λ (a b : ℕ). a + b) (sum_same f g each n) (each (lock_at n))

-- as many locks are held as slots are kept
locks_are_depths : (m : Limits) (xs : List Event) → ((l : LockId) → State (plain_holder xs l) xs l)
    → plain_held_locks m xs ≡ held_depths m xs
unfolding plain_held_locks held_depths
locks_are_depths m xs s =
    sum_same (λ l. held_one (plain_holder xs l)) (lock_depth xs)
    (λ l. sym (one_deep xs l (plain_holder xs l) (s l))) m.locks

legal_too : (m : Limits) (xs : List Event) (e : Event) → ((l : LockId) → State (plain_holder xs l) xs l)
    → PlainLegal m xs e → Legal m xs e
unfolding plain_refusal refusal AllNone
legal_too m xs e s legal =
    let c = legal.call in
    let r : AllNone (plain_reasons m xs c) = all_none (plain_reasons m xs c) legal.allowed in
    let room : full_with (held_depths m xs) m xs c.op ≡ None
    = subst (λ n. full_with n m xs c.op ≡ None) (locks_are_depths m xs s) r.1.1.1.1.1.1.1.1.1.0 in
    let new : AllNone (reasons m xs c)
    = (
      r.0,
      (
        r.1.0,
        (
          r.1.1.0,
          (
            r.1.1.1.0,
            (
              held_too xs c.thread c.op s r.1.1.1.1.0,
              (
                holds_too xs c.thread c.op s r.1.1.1.1.1.0,
                (r.1.1.1.1.1.1.0, (r.1.1.1.1.1.1.1.0, (r.1.1.1.1.1.1.1.1.0, (room, tt)))),
              ),
            ),
          ),
        ),
      ),
    ) in
    record { call = c; allowed = none_all (reasons m xs c) new; is = legal.is }

pub well_formed_too : (m : Limits) (log : List Event) → PlainWellFormed m log → WellFormed m log
well_formed_too m log w = record {
  legal =
      λ i e at. legal_too m (take i log) e
      (λ l. states m log w l i (let lt : i < length log = slice_get_within log i e at in omega arith))
      (w.legal i e at);
}

-- all acquires and releases are outer
pub plain_acquire : (m : Limits) (log : List Event) (a : ℕ) (u : ThreadId) (l : LockId)
    → PlainWellFormed m log → Does log a u (Acquire l) → OuterAcquire log a u l
plain_acquire m log a u l w d =
    let lt : a < length log = slice_get_within log a d.event d.at in
    let p = parts m (take a log) d.event (w.legal a d.event d.at) in
    let n : held_by_any (plain_holder (take a log) l) ≡ None
    = subst (λ o. plain_held (take a log) o ≡ None) d.does p.unheld in
    record {
      does = d;
      outer = depth_of_none (take a log) l _ (states m log w l a (omega arith))
          (no_holder (plain_holder (take a log) l) n) u;
    }
  where
    no_holder : (h : Option ThreadId) → held_by_any h ≡ None → h ≡ None
    no_holder None e = refl
    no_holder (Some v) e = absurd (cc)

pub plain_release : (m : Limits) (log : List Event) (r : ℕ) (u : ThreadId) (l : LockId)
    → PlainWellFormed m log → Does log r u (Release l) → OuterRelease log r u l
unfolding plain_holder
plain_release m log r u l w d =
    let lt : r < length log = slice_get_within log r d.event d.at in
    let na : op_acquires l d.event.op ≡ false = ap (op_acquires l) d.does in
    let nr : op_releases l d.event.op ≡ true = ap (op_releases l) d.does ∙ eq-eqb l.0 l.0 refl in
    let gone : plain_holder_from None (take (suc r) log) l ≡ None
    = ap (λ xs. plain_holder_from None xs l) (take_event log r d.event d.at)
    ∙ holder_snoc None (take r log) d.event l ∙ cond-false _ _ _ na ∙ cond-true _ _ _ nr in
    record {
      does = d;
      outer = depth_of_none (take (suc r) log) l _ (states m log w l (suc r) (omega arith)) gone u;
    }

-- back: a well-formed log without inner acquires
holder_same : (xs : List Event) (l : LockId) (h : Option ThreadId) → State h xs l → holder xs l ≡ h
unfolding State depth
holder_same xs l (Some v) s = holder_of_some xs l v (Some v) s refl
holder_same xs l None s = go (holder xs l) refl
  where
    go : (h : Option ThreadId) → holder xs l ≡ h → h ≡ None
    go None e = refl
    go (Some v) e = absurd (let lt = holder_depth xs l v e in let z = s v in omega arith)

unheld_back : (xs : List Event) (u : ThreadId) (o : Op) → ((l : LockId) → State (plain_holder xs l) xs l)
    → ((l : LockId) → o ≡ Acquire l → depth xs u l ≡ 0)
    → held xs u o ≡ None → plain_held xs o ≡ None
unheld_back xs u (Acquire l) s fresh n =
    go (plain_holder xs l) refl (holder_same xs l (plain_holder xs l) (s l))
  where
    own : (v : ThreadId) → holder xs l ≡ Some v → (nat_eq v.0 u.0 ≡ true) ⊎ (nat_eq v.0 u.0 ≡ false)
        → not (nat_eq v.0 u.0) ≡ false → ⊥
    own v e (inl t) q =
        let lt : 0 < depth xs u l
        = subst (λ w. 0 < depth xs w l) (same_thread_id (eqb-true v.0 u.0 t)) (holder_depth xs l v e) in
        let z : depth xs u l ≡ 0 = fresh l refl in
        omega arith
    own v e (inr f) q = let g : not (nat_eq v.0 u.0) ≡ true = ap not f in cc

    go : (h : Option ThreadId) → plain_holder xs l ≡ h → holder xs l ≡ plain_holder xs l
        → held_by_any (plain_holder xs l) ≡ None
    go None e q = ap held_by_any e
    go (Some v) e q =
        absurd (own v (q ∙ e) (cases_Bool (nat_eq v.0 u.0))
        (when_none _ (Held v) (sym (ap (λ h. held_by h u) (q ∙ e)) ∙ n)))
unheld_back xs u _ s fresh n = refl

holds_back : (xs : List Event) (u : ThreadId) (o : Op) → ((l : LockId) → State (plain_holder xs l) xs l)
    → not_holder xs u o ≡ None → plain_not_holder xs u o ≡ None
holds_back xs u (Release l) s n =
    subst (λ h. when (not (is_holder h u)) NotHolder ≡ None) (holder_same xs l (plain_holder xs l) (s l)) n
holds_back xs u _ s n = refl

legal_back : (m : Limits) (xs : List Event) (e : Event) → ((l : LockId) → State (plain_holder xs l) xs l)
    → ((l : LockId) → e.op ≡ Acquire l → depth xs e.thread l ≡ 0)
    → Legal m xs e → PlainLegal m xs e
unfolding plain_refusal refusal AllNone
legal_back m xs e s fresh legal =
    let c = legal.call in
    let r : AllNone (reasons m xs c) = all_none (reasons m xs c) legal.allowed in
    let fresh' : (l : LockId) → c.op ≡ Acquire l → depth xs c.thread l ≡ 0
    = subst (λ (x : Event). (l : LockId) → x.op ≡ Acquire l → depth xs x.thread l ≡ 0) legal.is fresh in
    let room : full_with (plain_held_locks m xs) m xs c.op ≡ None
    = subst (λ n. full_with n m xs c.op ≡ None) (sym (locks_are_depths m xs s)) r.1.1.1.1.1.1.1.1.1.0 in
    let old : AllNone (plain_reasons m xs c)
    = (
      r.0,
      (
        r.1.0,
        (
          r.1.1.0,
          (
            r.1.1.1.0,
            (
              unheld_back xs c.thread c.op s fresh' r.1.1.1.1.0,
              (
                holds_back xs c.thread c.op s r.1.1.1.1.1.0,
                (r.1.1.1.1.1.1.0, (r.1.1.1.1.1.1.1.0, (r.1.1.1.1.1.1.1.1.0, (room, tt)))),
              ),
            ),
          ),
        ),
      ),
    ) in
    record { call = c; allowed = none_all (plain_reasons m xs c) old; is = legal.is }

legal_at : (m : Limits) (log : List Event) → WellFormed m log
    → ((a : ℕ) (u : ThreadId) (l : LockId) → Does log a u (Acquire l) → OuterAcquire log a u l)
    → (i : ℕ) (e : Event) → slice_get log i ≡ Some e
    → ((l : LockId) → State (plain_holder (take i log) l) (take i log) l) → PlainLegal m (take i log) e
legal_at m log w o i e at s =
    legal_back m (take i log) e s
    (λ l op. (o i e.thread l (record { event = e; at = at; thread = refl; does = op })).outer)
    (w.legal i e at)

states_back : (m : Limits) (log : List Event) → WellFormed m log
    → ((a : ℕ) (u : ThreadId) (l : LockId) → Does log a u (Acquire l) → OuterAcquire log a u l)
    → (k : ℕ) → k ≤ length log → (l : LockId) → State (plain_holder (take k log) l) (take k log) l
states_back m log w o zero le = λ l. state_nil l log
states_back m log w o (suc k) le = go (slice_get_cases log k).1 (states_back m log w o k (omega arith))
  where
    go : (((e : Event) × (k < length log) × (slice_get log k ≡ Some e) × (get_or log k e ≡ e))
        ⊎ ((length log ≤ k) × (slice_get log k ≡ None)))
        → ((l : LockId) → State (plain_holder (take k log) l) (take k log) l) → (l : LockId)
        → State (plain_holder (take (suc k) log) l) (take (suc k) log) l
    go (inr past) s = absurd (let p : length log ≤ k = past.0 in omega arith)
    go (inl x) s =
        λ l. subst (λ ys. State (plain_holder ys l) ys l) (sym (take_event log k x.0 x.2))
        (state_step m (take k log) x.0 l (legal_at m log w o k x.0 x.2 s) (s l))

pub well_formed_back : (m : Limits) (log : List Event) → WellFormed m log
    → ((a : ℕ) (u : ThreadId) (l : LockId) → Does log a u (Acquire l) → OuterAcquire log a u l)
    → PlainWellFormed m log
well_formed_back m log w o = record {
  legal =
      λ i e at. legal_at m log w o i e at
      (states_back m log w o i (let lt : i < length log = slice_get_within log i e at in omega arith));
}
