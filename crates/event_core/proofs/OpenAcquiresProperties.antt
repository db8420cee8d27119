-- What the log has more acquires than releases of: the depths of the held locks.
use Rattle.std.proofs.Common.{◌≡◌, ℕ, suc, zero, ◌<◌, ◌≤◌, ◌+◌, List, [], ◌∷◌, ◌++◌, Bool, true, false}
use Rattle.std.proofs.Common.{length, refl, sym, ap, ap₂, subst, ◌∙◌, ◌⊎◌, arith, cond, count_by, not, nat_le}
use Rattle.std.proofs.Common.{Option, Some, None, nat_lt, option_and_then, if◌then◌else◌, length-append}
use Rattle.std.proofs.lemmas.Bool.{cases_lt, cases_eq, eq-eqb, lt-ltb, le-ltb, ltb-true, leb-true, not-false}
use Rattle.std.proofs.lemmas.Bool.{cond-true, cond-false, false_from_ne_true}
use Rattle.std.proofs.lemmas.List.Sums.{sum_by-cons}
use Rattle.std.proofs.Math.Seq.{take-length}
use mathlib.Core.Logic.{inl, inr}
use Rattle.event_core.proofs.Words.{ThreadId, LockId, Event, Limits, TargetRange, LogFull, Op, Acquire}
use Rattle.event_core.proofs.Words.{Release}
use Rattle.event_core.specs.Log.{depth, op_acquires}
use Rattle.event_core.specs.Refusal.{open_acquires, op_is_acquire, op_is_release, last_acquirer, holder}
use Rattle.event_core.specs.Refusal.{held_by, held, in_range, depth_by, lock_depth, lock_at, sum_locks}
use Rattle.event_core.specs.Refusal.{held_depths, log_full, full_with, when, WellFormed}
use Rattle.event_core.proofs.DepthProperties.{count_with, same_lock_id, op_acquires_is}
use Rattle.event_core.proofs.EffectProperties.{depth_same, depth_up, depth_down}
use Rattle.event_core.proofs.WellFormedProperties.{well_formed_front, well_formed_last, each_formed}
use Rattle.event_core.proofs.HeldDepths.{held_now}
use Rattle.event_core.proofs.OrderlyProperties.{Reasons, legal_reasons, when_none, acquirer_snoc, held_last}
use Rattle.event_core.proofs.OrderlyProperties.{holder_is, own_again, orderly}

-- if an element counts for p as it does for q and r together, then the counts add up
pub split_count : (p q r : Event → Bool) → ((e : Event) → cond (p e) 1 0 ≡ cond (q e) 1 0 + cond (r e) 1 0)
    → (xs : List Event) → count_by p xs ≡ count_by q xs + count_by r xs
split_count p q r each [] = refl
split_count p q r each (x ∷ xs) =
    let ih = split_count p q r each xs in
    let here = each x in
    let a = sum_by-cons (λ e. cond (p e) 1 0) x xs in
    let b = sum_by-cons (λ e. cond (q e) 1 0) x xs in
    let c = sum_by-cons (λ e. cond (r e) 1 0) x xs in
    omega arith

-- sums of nothing and of equal terms, and a sum of which one term is one higher
sum_none : (f : LockId → ℕ) (n : ℕ) → ((l : LockId) → f l ≡ 0) → sum_locks f n ≡ 0
sum_none f zero each = refl
sum_none f (suc n) each = let ih = sum_none f n each in let here = each (lock_at n) in omega arith

sum_same : (f g : LockId → ℕ) (n : ℕ) → ((l : LockId) → l.0 < n → g l ≡ f l) → sum_locks g n ≡ sum_locks f n
sum_same f g zero each = refl
sum_same f g (suc n) each =
    ap₂ (λ (a b : ℕ). a + b) (sum_same f g n (λ l lt. each l (omega arith))) (each (lock_at n) (omega arith))

sum_up : (f g : LockId → ℕ) (l : LockId) (n : ℕ) → g l ≡ f l + 1
    → ((k : LockId) → (k ≡ l → ⊥) → g k ≡ f k) → l.0 < n → sum_locks g n ≡ sum_locks f n + 1
sum_up f g l zero one rest lt = absurd (omega arith)
sum_up f g l (suc n) one rest lt = go (cases_eq l.0 n) (sum_up f g l n one rest)
  where
    go : (l.0 ≡ n) ⊎ (l.0 ≡ n → ⊥) → (l.0 < n → sum_locks g n ≡ sum_locks f n + 1)
        → sum_locks g n + g (lock_at n) ≡ sum_locks f n + f (lock_at n) + 1
    go (inl e) ih =
        let same = sum_same f g n (λ k b. rest k (λ q.
        let z : k.0 ≡ l.0 = ap (λ (x : LockId). x.0) q in omega arith)) in
        let here : g (lock_at n) ≡ f (lock_at n) + 1
        = subst (λ (k : LockId). g k ≡ f k + 1) (same_lock_id {u = l} {v = lock_at n} e) one in
        omega arith
    go (inr ne) ih =
        let more = ih (omega arith) in
        let here = rest (lock_at n) (λ q. ne (sym (ap (λ (x : LockId). x.0) q))) in
        omega arith

-- the depth of a lock is its last acquirer's
by_last : (xs : List Event) (l : LockId) (o : Option ThreadId) → last_acquirer xs l ≡ o
    → lock_depth xs l ≡ depth_by o xs l
unfolding lock_depth holder
by_last xs l o is = ap (λ p. depth_by (option_and_then holds p) xs l) is ∙ go o
  where
    holds : ThreadId → Option ThreadId
    holds u = if nat_lt 0 (depth xs u l) then Some u else None

    go : (p : Option ThreadId) → depth_by (option_and_then holds p) xs l ≡ depth_by p xs l
    go None = refl
    go (Some u) = elim (cases_lt 0 (depth xs u l)) [
      | inl lt ↦ ap (λ (p : Option ThreadId). depth_by p xs l)
          (cond-true _ _ _ (lt-ltb 0 (depth xs u l) lt))
      | inr le ↦ ap (λ (p : Option ThreadId). depth_by p xs l)
          (cond-false _ _ _ (le-ltb 0 (depth xs u l) le)) ∙ omega arith
    ]

-- who holds a lock of a well-formed log made its last acquire
pub last_holds : (m : Limits) (log : List Event) (u : ThreadId) (l : LockId) → WellFormed m log
    → 0 < depth log u l → last_acquirer log l ≡ Some u
last_holds m log u l w =
    subst (λ xs. 0 < depth xs u l → last_acquirer xs l ≡ Some u) (take-length log)
    (held_last m log u l w (length log))

-- who may acquire a lock has its depth
pub own_depth : (m : Limits) (log : List Event) (u : ThreadId) (l : LockId) → WellFormed m log
    → held_by (holder log l) u ≡ None → lock_depth log l ≡ depth log u l
unfolding lock_depth
own_depth m log u l w free = own (holder log l) refl free
  where
    own : (h : Option ThreadId) → holder log l ≡ h → held_by h u ≡ None → depth_by h log l ≡ depth log u l
    own (Some v) is free = ap (λ t. depth log t l) (own_again v u free)
    own None is free = elim (cases_lt 0 (depth log u l)) [
      | inl up ↦ absurd (let h = holder_is log l u (last_holds m log u l w up) up in cc)
      | inr none ↦ omega arith
    ]

-- what one event does to the depth of a lock
module _ (m : Limits) (log : List Event) (e : Event) (w : WellFormed m (log ++ e ∷ [])) (l : LockId) where
  -- an acquire adds one to the lock's depth
  pub acquired : e.op ≡ Acquire l → lock_depth (log ++ e ∷ []) l ≡ lock_depth log l + 1
  acquired o =
      let r = legal_reasons m log e (well_formed_last m log e w) in
      let up = depth_up log e l (orderly m (log ++ e ∷ []) w) o in
      let was = own_depth m log e.thread l (well_formed_front m log (e ∷ []) w)
      (subst (λ p. held log e.thread p ≡ None) o r.no_holder) in
      let now = by_last (log ++ e ∷ []) l (Some e.thread)
      (acquirer_snoc log e l ∙ cond-true _ _ _ (ap (op_acquires l) o ∙ eq-eqb l.0 l.0 refl)) in
      omega arith

  -- a release takes one from the lock's depth
  pub released : e.op ≡ Release l → lock_depth log l ≡ lock_depth (log ++ e ∷ []) l + 1
  released o =
      let up = held_now log e (orderly m (log ++ e ∷ []) w) l o in
      let down = depth_down log e l o in
      let last = last_holds m log e.thread l (well_formed_front m log (e ∷ []) w) up in
      let was = by_last log l (Some e.thread) last in
      let now = by_last (log ++ e ∷ []) l (Some e.thread)
      (acquirer_snoc log e l ∙ cond-false _ _ _ (ap (op_acquires l) o) ∙ last) in
      omega arith

  unchanged : (e.op ≡ Acquire l → ⊥) → (e.op ≡ Release l → ⊥)
      → lock_depth (log ++ e ∷ []) l ≡ lock_depth log l
  unchanged na nr =
      let none : op_acquires l e.op ≡ false = false_from_ne_true _ (λ t. na (op_acquires_is l e.op t)) in
      by_last (log ++ e ∷ []) l (last_acquirer log l) (acquirer_snoc log e l ∙ cond-false _ _ _ none)
      ∙ kept (last_acquirer log l) ∙ sym (by_last log l (last_acquirer log l) refl)
    where
      kept : (o : Option ThreadId) → depth_by o (log ++ e ∷ []) l ≡ depth_by o log l
      kept None = refl
      kept (Some v) = depth_same log e v l (λ t p. na p) (λ t p. nr p)

-- the log has as many more acquires than releases as the held locks have depths, and a slot for each
pub record Balanced (m : Limits) (log : List Event) : Type 0 where
  pub counts : count_by (λ (e : Event). op_is_acquire e.op) log
      ≡ count_by (λ (e : Event). op_is_release e.op) log + held_depths m log
  pub room : length log + held_depths m log ≤ m.events

slot : (n k : ℕ) → when (not (nat_le n k)) LogFull ≡ None → n ≤ k
slot n k h = leb-true n k (not-false _ (when_none _ LogFull h))

balanced_more : (m : Limits) (xs : List Event) (e : Event) → WellFormed m (xs ++ e ∷ []) → Balanced m xs
    → Balanced m (xs ++ e ∷ [])
unfolding held_depths
balanced_more m xs e w was = go e.op refl
  where
    r : Reasons m xs e.thread e.op
    r = legal_reasons m xs e (well_formed_last m xs e w)

    long : length (xs ++ e ∷ []) ≡ length xs + 1
    long = length-append xs (e ∷ [])

    within : (l : LockId) → in_range m e.op ≡ nat_lt l.0 m.locks → l.0 < m.locks
    within l is = ltb-true l.0 m.locks (sym is ∙ not-false _ (when_none _ TargetRange r.on_table))

    full : (o : Op) → e.op ≡ o → log_full m xs o ≡ None
    full o is = subst (λ p. log_full m xs p ≡ None) is r.fits

    go : (o : Op) → e.op ≡ o → Balanced m (xs ++ e ∷ [])
    go (Acquire l) o =
        let up = sum_up (lock_depth xs) (lock_depth (xs ++ e ∷ [])) l m.locks (acquired m xs e w l o)
        (λ k n. unchanged m xs e w k (λ p. n cc) (λ p. cc)) (within l (ap (in_range m) o)) in
        let a = count_with (λ (x : Event). op_is_acquire x.op) xs e true (ap op_is_acquire o) in
        let b = count_with (λ (x : Event). op_is_release x.op) xs e false (ap op_is_release o) in
        let fits = slot (length xs + held_depths m xs + 2) m.events (full (Acquire l) o) in
        record { counts = omega arith; room = omega (arith, long) }
    go (Release l) o =
        let down = sum_up (lock_depth (xs ++ e ∷ [])) (lock_depth xs) l m.locks (released m xs e w l o)
        (λ k n. sym (unchanged m xs e w k (λ p. cc) (λ p. n cc))) (within l (ap (in_range m) o)) in
        let a = count_with (λ (x : Event). op_is_acquire x.op) xs e false (ap op_is_acquire o) in
        let b = count_with (λ (x : Event). op_is_release x.op) xs e true (ap op_is_release o) in
        record { counts = omega arith; room = omega (arith, long) }
    go p o =
        let same = sum_same (lock_depth xs) (lock_depth (xs ++ e ∷ [])) m.locks
        (λ k lt. unchanged m xs e w k (λ q. cc) (λ q. cc)) in
        let a = count_with (λ (x : Event). op_is_acquire x.op) xs e false (ap op_is_acquire o) in
        let b = count_with (λ (x : Event). op_is_release x.op) xs e false (ap op_is_release o) in
        let fits = slot (length xs + held_depths m xs + 1) m.events (full p o) in
        record { counts = omega arith; room = omega (arith, long) }

-- a well-formed log is balanced
pub balanced : (m : Limits) (log : List Event) → WellFormed m log → Balanced m log
unfolding held_depths last_acquirer
balanced m log w =
    let none = sum_none (lock_depth []) m.locks (λ l. by_last [] l None refl) in
    each_formed (Balanced m) m log w (record { counts = omega arith; room = omega arith }) (balanced_more m)

-- in a well-formed log the depths of all locks sum up to the acquires less the releases
pub depths_are_open : (m : Limits) (log : List Event) → WellFormed m log
    → held_depths m log ≡ open_acquires log
unfolding open_acquires
depths_are_open m log w = let b = balanced m log w in omega arith

-- so the log is full by the one as by the other
pub full_by_open : (m : Limits) (log : List Event) (o : Op) → WellFormed m log
    → log_full m log o ≡ full_with (open_acquires log) m log o
full_by_open m log o w = ap (λ (h : ℕ). full_with h m log o) (depths_are_open m log w)
