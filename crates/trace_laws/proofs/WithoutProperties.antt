-- A log without the accesses to variables is well formed.
use Rattle.std.proofs.Common.{◌≡◌, ℕ, zero, suc, ◌≤◌, ◌+◌, List, [], ◌∷◌, Bool, true, false, length, refl}
use Rattle.std.proofs.Common.{sym, ap, ap₂, subst, ◌∙◌, arith, take, Some, None, Option, slice_get, not}
use Rattle.std.proofs.Common.{nat_le}
use Rattle.std.proofs.Common.{nat_eq, nat_lt, cond, ◌||◌, ◌-◌, if◌then◌else◌, option_and_then}
use Rattle.std.proofs.lemmas.Bool.{cases_Bool, cond-false, leb-true, le-leb, not-false, not-true}
use Rattle.std.proofs.lemmas.Bool.{both_ways, or_parts, eqb-true, and_right}
use Rattle.std.proofs.lemmas.List.Sums.{count_by-le-length, length-filter, sum_by-cons}
use Rattle.std.specs.List.{filter, list_any, count_by}
use Rattle.std.specs.Option.{option_or}
use mathlib.Core.Logic.{inl, inr}
use Rattle.event_core.specs.declared.ids.ThreadId.{ThreadId}
use Rattle.event_core.specs.declared.ids.LockId.{LockId}
use Rattle.event_core.specs.declared.ids.VarId.{VarId}
use Rattle.event_core.specs.declared.events.Event.{Event}
use Rattle.event_core.specs.declared.events.Call.{Call}
use Rattle.event_core.specs.declared.events.Op.{Op}
use Rattle.event_core.specs.declared.events.Op.TheVariants.{Load, Store, Acquire, Release, Fork, Join}
use Rattle.event_core.specs.declared.bounds.Limits.{Limits}
use Rattle.event_core.specs.declared.bounds.Roots.{Roots}
use Rattle.event_core.specs.declared.bounds.Roots.TheVariants.{OnlyMain, Free}
use Rattle.event_core.specs.declared.replies.Refusal.{Refusal}
use Rattle.event_core.specs.declared.replies.Refusal.TheVariants.{NotStarted, Ended, AlreadyStarted}
use Rattle.event_core.specs.declared.replies.Refusal.TheVariants.{TargetNotStarted, NotHolder, LogFull}
use Rattle.event_core.specs.Log.{depth, acquires, releases, op_acquires, op_releases}
use Rattle.event_core.specs.Refusal.{op_forks, op_joins}
use Rattle.event_core.specs.Refusal.{refusal, reasons, first_of, when, held, held_by, holder, is_holder}
use Rattle.event_core.specs.Refusal.{last_acquirer, not_holder, already_started, known, forked, forks, joins}
use Rattle.event_core.specs.Refusal.{mentions, Legal, WellFormed, log_full, held_depths, lock_depth}
use Rattle.event_core.specs.Refusal.{sum_locks, lock_at, depth_by, target_not_started, last_value}
use Rattle.event_core.specs.Refusal.{last_value_from, op_stores, value_of}
use Rattle.event_core.proofs.OrderlyProperties.{AllNone, all_none, when_none}
use Rattle.trace_laws.specs.Without.{op_accesses, stays, without}
use Rattle.trace_laws.proofs.Filters.{front, filter_in, filter_out, origin}

-- a test that the elements left out do not pass counts the same, and is passed by the same lists
pub count_cons : (q : Event → Bool) (x : Event) (xs : List Event)
    → count_by q (x ∷ xs) ≡ cond {A = ℕ} (q x) 1 0 + count_by q xs
count_cons q x xs = sum_by-cons (λ e. cond (q e) 1 0) x xs

pub same_count : (p q : Event → Bool) (xs : List Event) → ((e : Event) → p e ≡ false → q e ≡ false)
    → count_by q (filter p xs) ≡ count_by q xs
same_count p q [] h = refl
same_count p q (x ∷ xs) h = elim (cases_Bool (p x)) [
  | inl t ↦
      ap (count_by q) (filter_in p x xs t) ∙ count_cons q x (filter p xs)
      ∙ ap (λ (n : ℕ). cond {A = ℕ} (q x) 1 0 + n) (same_count p q xs h) ∙ sym (count_cons q x xs)
  | inr f ↦
      let more : count_by q (x ∷ xs) ≡ 0 + count_by q xs
      = count_cons q x xs ∙ ap (λ (b : Bool). cond {A = ℕ} b 1 0 + count_by q xs) (h x f) in
      let as_many : count_by q xs ≡ count_by q (x ∷ xs) = omega (arith, more) in
      ap (count_by q) (filter_out p x xs f) ∙ same_count p q xs h ∙ as_many
]

same_any : (p q : Event → Bool) (xs : List Event) → ((e : Event) → p e ≡ false → q e ≡ false)
    → list_any q (filter p xs) ≡ list_any q xs
same_any p q [] h = refl
same_any p q (x ∷ xs) h = elim (cases_Bool (p x)) [
  | inl t ↦ ap (list_any q) (filter_in p x xs t) ∙ ap (λ b. q x || b) (same_any p q xs h)
  | inr f ↦
      ap (list_any q) (filter_out p x xs f) ∙ same_any p q xs h
      ∙ ap (λ b. b || list_any q xs) (sym (h x f))
]

-- what no element passes, none of the filtered list does
none_stays : (p q : Event → Bool) (xs : List Event) → list_any q xs ≡ false → list_any q (filter p xs) ≡ false
none_stays p q [] h = refl
none_stays p q (x ∷ xs) h =
    let parts : (q x ≡ false) × (list_any q xs ≡ false) = or_parts (q x) (list_any q xs) h in
    elim (cases_Bool (p x)) [
      | inl t ↦
          ap (list_any q) (filter_in p x xs t) ∙ ap (λ b. b || list_any q (filter p xs)) parts.0
          ∙ none_stays p q xs parts.1
      | inr f ↦ ap (list_any q) (filter_out p x xs f) ∙ none_stays p q xs parts.1
    ]

shorter : (p : Event → Bool) (xs : List Event) → length (filter p xs) ≤ length xs
shorter p xs =
    let a = length-filter p xs in let b = count_by-le-length p xs in omega (arith, a, b)

-- what an access is not
accesses_only : (vars : VarId → Bool) (q : Op → Bool) → ((x : VarId) → q (Load x) ≡ false)
    → ((x : VarId) → q (Store x) ≡ false) → (o : Op) → not (op_accesses vars o) ≡ false → q o ≡ false
accesses_only vars q loads stores (Load x) f = loads x
accesses_only vars q loads stores (Store x) f = stores x
accesses_only vars q loads stores _ f = absurd (cc)

no_acquire : (vars : VarId → Bool) (u : ThreadId) (l : LockId) (e : Event) → stays vars e ≡ false
    → acquires u l e ≡ false
no_acquire vars u l e f =
    and_right (nat_eq e.thread.0 u.0) (op_acquires l e.op)
    (accesses_only vars (op_acquires l) (λ x. refl) (λ x. refl) e.op f)

no_release : (vars : VarId → Bool) (u : ThreadId) (l : LockId) (e : Event) → stays vars e ≡ false
    → releases u l e ≡ false
no_release vars u l e f =
    and_right (nat_eq e.thread.0 u.0) (op_releases l e.op)
    (accesses_only vars (op_releases l) (λ x. refl) (λ x. refl) e.op f)

-- depths and holders are the same
pub same_depth : (vars : VarId → Bool) (xs : List Event) (u : ThreadId) (l : LockId)
    → depth (without vars xs) u l ≡ depth xs u l
unfolding depth
same_depth vars xs u l =
    ap₂ (λ (a b : ℕ). a - b) (same_count (stays vars) (acquires u l) xs (no_acquire vars u l))
    (same_count (stays vars) (releases u l) xs (no_release vars u l))

same_acquirer : (vars : VarId → Bool) (xs : List Event) (l : LockId)
    → last_acquirer (without vars xs) l ≡ last_acquirer xs l
unfolding last_acquirer
same_acquirer vars [] l = refl
same_acquirer vars (x ∷ xs) l = elim (cases_Bool (stays vars x)) [
  | inl t ↦
      ap (λ ys. last_acquirer ys l) (filter_in (stays vars) x xs t)
      ∙ ap (λ o. option_or o (if op_acquires l x.op then Some x.thread else None)) (same_acquirer vars xs l)
  | inr f ↦
      ap (λ ys. last_acquirer ys l) (filter_out (stays vars) x xs f) ∙ same_acquirer vars xs l
      ∙ sym (or_none (last_acquirer xs l))
      ∙ ap (λ (b : Bool). option_or (last_acquirer xs l) (if b then Some x.thread else None))
      (sym (accesses_only vars (op_acquires l) (λ x. refl) (λ x. refl) x.op f))
]
  where
    or_none : (o : Option ThreadId) → option_or o None ≡ o
    or_none None = refl
    or_none (Some u) = refl

same_holder : (vars : VarId → Bool) (xs : List Event) (l : LockId) → holder (without vars xs) l ≡ holder xs l
unfolding holder
same_holder vars xs l =
    ap (λ o. option_and_then (λ u. if nat_lt 0 (depth (without vars xs) u l) then Some u else None) o)
    (same_acquirer vars xs l)
    ∙ one (last_acquirer xs l)
  where
    one : (o : Option ThreadId)
        → option_and_then (λ u. if nat_lt 0 (depth (without vars xs) u l) then Some u else None) o
        ≡ option_and_then (λ u. if nat_lt 0 (depth xs u l) then Some u else None) o
    one None = refl
    one (Some u) = ap (λ (n : ℕ). if nat_lt 0 n then Some u else None) (same_depth vars xs u l)

same_lock_depth : (vars : VarId → Bool) (xs : List Event) (l : LockId)
    → lock_depth (without vars xs) l ≡ lock_depth xs l
unfolding lock_depth
same_lock_depth vars xs l =
    ap (λ o. depth_by o (without vars xs) l) (same_holder vars xs l) ∙ one (holder xs l)
  where
    one : (o : Option ThreadId) → depth_by o (without vars xs) l ≡ depth_by o xs l
    one None = refl
    one (Some u) = same_depth vars xs u l

sum_same : (f g : LockId → ℕ) → ((l : LockId) → f l ≡ g l) → (n : ℕ) → sum_locks f n ≡ sum_locks g n
sum_same f g each zero = refl
sum_same f g each (suc n) = ap₂ (λ (a b : ℕ). a + b) (sum_same f g each n) (each (lock_at n))

same_held_depths : (m : Limits) (vars : VarId → Bool) (xs : List Event)
    → held_depths m (without vars xs) ≡ held_depths m xs
unfolding held_depths
same_held_depths m vars xs =
    sum_same (lock_depth (without vars xs)) (lock_depth xs) (same_lock_depth vars xs) m.locks

-- values of the other variables are the same
same_var : {u v : VarId} → u.0 ≡ v.0 → u ≡ v
same_var e = ap (λ (n : ℕ). let t : VarId = record { 0 = n } in t) e

same_value_from : (vars : VarId → Bool) (n : ℕ) (xs : List Event) (x : VarId) → vars x ≡ false
    → last_value_from n (without vars xs) x ≡ last_value_from n xs x
same_value_from vars n [] x other = refl
same_value_from vars n (e ∷ es) x other = elim (cases_Bool (stays vars e)) [
  | inl t ↦
      ap (λ ys. last_value_from n ys x) (filter_in (stays vars) e es t)
      ∙ same_value_from vars (if op_stores x e.op then e.value else n) es x other
  | inr f ↦
      ap (λ ys. last_value_from n ys x) (filter_out (stays vars) e es f)
      ∙ same_value_from vars n es x other
      ∙ ap (λ (b : Bool). last_value_from (if b then e.value else n) es x) (sym (no_store e.op f))
]
  where
    no_store : (o : Op) → not (op_accesses vars o) ≡ false → op_stores x o ≡ false
    no_store (Store y) f = elim (cases_Bool (nat_eq y.0 x.0)) [
      | inl t ↦ absurd (
          let same : y ≡ x = same_var (eqb-true y.0 x.0 t) in
          let is : vars y ≡ true = not-false (vars y) f in
          both_ways (vars x) other (subst (λ (v : VarId). vars v ≡ true) same is))
      | inr g ↦ g
    ]
    no_store (Load y) f = refl
    no_store _ f = refl

same_value : (vars : VarId → Bool) (xs : List Event) (o : Op) (arg : ℕ) → not (op_accesses vars o) ≡ true
    → value_of (without vars xs) o arg ≡ value_of xs o arg
unfolding last_value
same_value vars xs (Load x) arg t = same_value_from vars 0 xs x (not-true (vars x) t)
same_value vars xs _ arg t = refl

-- no reason to refuse a call is added
none_all : (os : List (Option Refusal)) → AllNone os → first_of os ≡ None
unfolding AllNone
none_all [] h = refl
none_all (None ∷ os) h = none_all os h.1
none_all (Some r ∷ os) h = absurd (let e = h.0 in cc)

same_forks : (vars : VarId → Bool) (xs : List Event) (u : ThreadId)
    → list_any (forks u) (without vars xs) ≡ list_any (forks u) xs
same_forks vars xs u =
    same_any (stays vars) (forks u) xs
    (λ e f. accesses_only vars (op_forks u) (λ x. refl) (λ x. refl) e.op f)

same_joins : (vars : VarId → Bool) (xs : List Event) (u : ThreadId)
    → list_any (joins u) (without vars xs) ≡ list_any (joins u) xs
same_joins vars xs u =
    same_any (stays vars) (joins u) xs
    (λ e f. accesses_only vars (op_joins u) (λ x. refl) (λ x. refl) e.op f)

same_forked : (vars : VarId → Bool) (roots : Roots) (xs : List Event) (u : ThreadId)
    → forked roots (without vars xs) u ≡ forked roots xs u
same_forked vars OnlyMain xs u = ap (λ b. nat_eq u.0 0 || b) (same_forks vars xs u)
same_forked vars Free xs u = refl

not_known : (vars : VarId → Bool) (roots : Roots) (xs : List Event) (u : ThreadId) → known roots xs u ≡ false
    → known roots (without vars xs) u ≡ false
not_known vars OnlyMain xs u f = ap (λ b. nat_eq u.0 0 || b) (same_forks vars xs u) ∙ f
not_known vars Free xs u f = none_stays (stays vars) (mentions u) xs f

when_false : (b : Bool) (r : Refusal) → b ≡ false → when b r ≡ None
when_false b r f = cond-false b (Some r) None f

held_too : (vars : VarId → Bool) (xs : List Event) (u : ThreadId) (o : Op) → held xs u o ≡ None
    → held (without vars xs) u o ≡ None
held_too vars xs u (Acquire l) h = ap (λ o. held_by o u) (same_holder vars xs l) ∙ h
held_too vars xs u _ h = refl

holds_too : (vars : VarId → Bool) (xs : List Event) (u : ThreadId) (o : Op) → not_holder xs u o ≡ None
    → not_holder (without vars xs) u o ≡ None
holds_too vars xs u (Release l) h =
    ap (λ o. when (not (is_holder o u)) NotHolder) (same_holder vars xs l) ∙ h
holds_too vars xs u _ h = refl

new_too : (m : Limits) (vars : VarId → Bool) (xs : List Event) (o : Op) → already_started m xs o ≡ None
    → already_started m (without vars xs) o ≡ None
new_too m vars xs (Fork u) h =
    when_false (known m.roots (without vars xs) u) AlreadyStarted
    (not_known vars m.roots xs u (when_none (known m.roots xs u) AlreadyStarted h))
new_too m vars xs _ h = refl

started_too : (m : Limits) (vars : VarId → Bool) (xs : List Event) (o : Op) → target_not_started m xs o ≡ None
    → target_not_started m (without vars xs) o ≡ None
started_too m vars xs (Join u) h =
    ap (λ b. when (not b) TargetNotStarted) (same_forked vars m.roots xs u) ∙ h
started_too m vars xs _ h = refl

fits_too : (a b n : ℕ) → a ≤ b → when (not (nat_le b n)) LogFull ≡ None
    → when (not (nat_le a n)) LogFull ≡ None
fits_too a b n le h =
    let fit : b ≤ n = leb-true b n (not-false (nat_le b n) (when_none (not (nat_le b n)) LogFull h)) in
    when_false (not (nat_le a n)) LogFull (ap not (le-leb a n (omega (arith, le, fit))))

room_too : (m : Limits) (vars : VarId → Bool) (xs : List Event) (o : Op) → log_full m xs o ≡ None
    → log_full m (without vars xs) o ≡ None
room_too m vars xs o h = go o h
  where
    less : length (without vars xs) ≤ length xs
    less = shorter (stays vars) xs

    depths : held_depths m (without vars xs) ≡ held_depths m xs
    depths = same_held_depths m vars xs

    plus : (k : ℕ) → length (without vars xs) + held_depths m (without vars xs) + k
        ≤ length xs + held_depths m xs + k
    plus k = let a = less in let b = depths in omega (arith, a, b)

    go : (o : Op) → log_full m xs o ≡ None → log_full m (without vars xs) o ≡ None
    go (Release l) h = refl
    go (Acquire l) h = fits_too _ _ m.events (plus 2) h
    go _ h = fits_too _ _ m.events (plus 1) h

-- the event of a call, with this value
abbrev with_value : Call → ℕ → Event
with_value c n = record { thread = c.thread; op = c.op; site = c.site; value = n }

legal_too : (m : Limits) (vars : VarId → Bool) (xs : List Event) (e : Event) → stays vars e ≡ true
    → Legal m xs e → Legal m (without vars xs) e
unfolding refusal AllNone
legal_too m vars xs e t legal =
    let c = legal.call in
    let r : AllNone (reasons m xs c) = all_none (reasons m xs c) legal.allowed in
    let new : AllNone (reasons m (without vars xs) c)
    = (
      r.0,
      (
        ap (λ b. when (not b) NotStarted) (same_forked vars m.roots xs c.thread) ∙ r.1.0,
        (
          ap (λ b. when b Ended) (same_joins vars xs c.thread) ∙ r.1.1.0,
          (
            r.1.1.1.0,
            (
              held_too vars xs c.thread c.op r.1.1.1.1.0,
              (
                holds_too vars xs c.thread c.op r.1.1.1.1.1.0,
                (
                  r.1.1.1.1.1.1.0,
                  (
                    new_too m vars xs c.op r.1.1.1.1.1.1.1.0,
                    (
                      started_too m vars xs c.op r.1.1.1.1.1.1.1.1.0,
                      (room_too m vars xs c.op r.1.1.1.1.1.1.1.1.1.0, tt),
                    ),
                  ),
                ),
              ),
            ),
          ),
        ),
      ),
    ) in
    let kept : not (op_accesses vars c.op) ≡ true
    = subst (λ (x : Event). not (op_accesses vars x.op) ≡ true) legal.is t in
    record {
      call = c;
      allowed = none_all (reasons m (without vars xs) c) new;
      is =
          legal.is
          ∙ ap (λ (n : ℕ). with_value c n)
          (sym (same_value vars xs c.op c.arg kept));
    }

-- a well-formed log without some variables is well formed
pub well_formed_too : (m : Limits) (vars : VarId → Bool) (log : List Event) → WellFormed m log
    → WellFormed m (without vars log)
well_formed_too m vars log w = record { legal = legal }
  where
    legal : (k : ℕ) (e : Event) → slice_get (without vars log) k ≡ Some e
        → Legal m (take k (without vars log)) e
    legal k e at =
        let o = origin (stays vars) log k e at in
        let before : take k (without vars log) ≡ without vars (take o.index log)
        = ap (λ (n : ℕ). take n (without vars log)) (sym o.to) ∙ front (stays vars) log o.index in
        subst (λ xs. Legal m xs e) (sym before)
        (legal_too m vars (take o.index log) e o.passes (w.legal o.index e o.at))
