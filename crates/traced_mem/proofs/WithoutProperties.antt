-- A list without a lock, and what it has.
use Rattle.std.proofs.Common.{◌≡◌, ℕ, suc, ◌+◌, Bool, true, false, cond, Some, None, List, [], ◌∷◌}
use Rattle.std.proofs.Common.{length, not, nat_eq, nat_lt, ap, sym, ◌∙◌, subst, ◌⊎◌, refl, arith}
use Rattle.std.proofs.lemmas.Bool.{cases_Bool, cases_lt, lt-ltb, le-ltb, eqb-true}
use Rattle.std.specs.List.{prefix_len}
use mathlib.Core.Logic.{inl, inr}
use Rattle.event_core.specs.declared.ids.LockId.{LockId}
use Rattle.event_core.specs.Closed.{Has, first, later}
use Rattle.event_core.proofs.DepthProperties.{same_lock_id}
use Rattle.event_core.proofs.HasProperties.{none_in}
use Rattle.traced_mem.specs.After.{without, without_at}

-- the lock at the front is the one that is left out
pub without_here : (l x : LockId) (xs : List LockId) → nat_eq x.0 l.0 ≡ true → without l (x ∷ xs) ≡ xs
without_here l x xs t =
    ap (λ b. without_at (cond
    (nat_lt (cond (not b) (1 + prefix_len (λ (h : LockId). not (nat_eq h.0 l.0)) xs) 0) (suc (length xs)))
    (Some (cond (not b) (1 + prefix_len (λ (h : LockId). not (nat_eq h.0 l.0)) xs) 0)) None) (x ∷ xs)) t
    ∙ ap (λ b. without_at (cond b (Some 0) None) (x ∷ xs)) (lt-ltb 0 (suc (length xs)) (omega arith))

lifted : (n len : ℕ) → nat_lt (suc n) (suc len) ≡ nat_lt n len
lifted n len = elim (cases_lt n len) [
  | inl lt ↦ lt-ltb (suc n) (suc len) (omega arith) ∙ sym (lt-ltb n len lt)
  | inr ge ↦ le-ltb (suc n) (suc len) (omega arith) ∙ sym (le-ltb n len ge)
]

next : (n len : ℕ) (x : LockId) (xs : List LockId)
    → without_at (cond (nat_lt (1 + n) (suc len)) (Some (1 + n)) None) (x ∷ xs)
    ≡ x ∷ without_at (cond (nat_lt n len) (Some n) None) xs
next n len x xs =
    let one : 1 + n ≡ suc n = omega arith in
    ap (λ k. without_at (cond (nat_lt k (suc len)) (Some k) None) (x ∷ xs)) one
    ∙ ap (λ b. without_at (cond b (Some (suc n)) None) (x ∷ xs)) (lifted n len) ∙ pick (nat_lt n len)
  where
    pick : (b : Bool) → without_at (cond b (Some (suc n)) None) (x ∷ xs)
        ≡ x ∷ without_at (cond b (Some n) None) xs
    pick true = refl
    pick false = refl

-- another lock at the front stays
pub without_next : (l x : LockId) (xs : List LockId) → nat_eq x.0 l.0 ≡ false
    → without l (x ∷ xs) ≡ x ∷ without l xs
without_next l x xs f =
    ap (λ b. without_at (cond
    (nat_lt (cond (not b) (1 + prefix_len (λ (h : LockId). not (nat_eq h.0 l.0)) xs) 0) (suc (length xs)))
    (Some (cond (not b) (1 + prefix_len (λ (h : LockId). not (nat_eq h.0 l.0)) xs) 0)) None) (x ∷ xs)) f
    ∙ next (prefix_len (λ (h : LockId). not (nat_eq h.0 l.0)) xs) (length xs) x xs

-- a list keeps all locks but the one that is left out
pub has_without : (l y : LockId) (xs : List LockId) → (l ≡ y → ⊥) → Has l xs → Has l (without y xs)
has_without l y [] n h = absurd (none_in h)
has_without l y (x ∷ xs) n h = go (cases_Bool (nat_eq x.0 y.0)) h (λ k. has_without l y xs n k)
  where
    go : (nat_eq x.0 y.0 ≡ true) ⊎ (nat_eq x.0 y.0 ≡ false) → Has l (x ∷ xs)
        → (Has l xs → Has l (without y xs)) → Has l (without y (x ∷ xs))
    go (inl t) (first _ _ e) ih = absurd (n (e ∙ same_lock_id (eqb-true x.0 y.0 t)))
    go (inl t) (later _ _ h) ih = subst (Has l) (sym (without_here y x xs t)) h
    go (inr f) (first _ _ e) ih =
        subst (Has l) (sym (without_next y x xs f)) (first x (without y xs) e)
    go (inr f) (later _ _ h) ih =
        subst (Has l) (sym (without_next y x xs f)) (later x (without y xs) (ih h))
