-- Tables of a log to which one entry is added.
use Rattle.std.proofs.Common.{◌≡◌, ℕ, ◌+◌, ◌<◌, List, [], ◌∷◌, ◌++◌, length, get_or, subst, sym, arith}
use Rattle.std.proofs.lemmas.Bool.{cases_lt}
use Rattle.std.proofs.lemmas.List.{get_or_push, get_or_append_left}
use mathlib.Core.Logic.{inl, inr}

-- a fact of each entry, and of one more
pub each_more : {X : Type 0} (P : ℕ → X → Type 0) (d x : X) (xs : List X) (k : ℕ) → length xs ≡ k
    → ((n : ℕ) → n < k → P n (get_or xs n d)) → P k x
    → (n : ℕ) → n < k + 1 → P n (get_or (xs ++ x ∷ []) n d)
each_more P d x xs k long old new n lt = elim (cases_lt n k) [
  | inl less ↦ subst (P n) (sym (get_or_append_left xs (x ∷ []) d n (omega arith))) (old n less)
  | inr ge ↦
      let is : k ≡ n = omega arith in
      let at : length xs ≡ n = omega arith in
      subst (P n) (sym (get_or_push xs x d n at)) (subst (λ (i : ℕ). P i x) is new)
]
