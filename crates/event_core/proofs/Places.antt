-- What stands at a place of a list that grows at its end.
use Rattle.std.proofs.Common.{◌≡◌, ℕ, zero, suc, List, [], ◌∷◌, ◌++◌, ◌⊎◌, Some, length, refl, sym, ap, subst}
use Rattle.std.specs.Prelude.{slice_get}
use mathlib.Core.Logic.{inl, inr}

-- the element at a place is there in each longer list
pub get_before : {X : Type 0} (xs more : List X) (i : ℕ) (x : X) → slice_get xs i ≡ Some x
    → slice_get (xs ++ more) i ≡ Some x
get_before [] more i x at = absurd cc
get_before (y ∷ xs) more zero x at = at
get_before (y ∷ xs) more (suc i) x at = get_before xs more i x at

-- the last element is at the place after all others
pub get_last : {X : Type 0} (xs : List X) (x : X) → slice_get (xs ++ x ∷ []) (length xs) ≡ Some x
get_last [] x = refl
get_last (y ∷ xs) x = get_last xs x

-- an element of a longer list is one of the shorter, or the last
pub front_or_last : {A : Type 0} (xs : List A) (x : A) (j : ℕ) (y : A) → slice_get (xs ++ x ∷ []) j ≡ Some y
    → (slice_get xs j ≡ Some y) ⊎ ((j ≡ length xs) × (y ≡ x))
front_or_last [] x zero y is = inr (refl, cc)
front_or_last [] x (suc j) y is = absurd cc
front_or_last (z ∷ zs) x zero y is = inl is
front_or_last (z ∷ zs) x (suc j) y is =
    elim (front_or_last zs x j y is) [ inl h ↦ inl h | inr h ↦ inr (ap suc h.0, h.1) ]

-- a fact of each element, and of one more
pub each_push : {A : Type 0} (P : A → Type 0) (xs : List A) (y : A)
    → ((i : ℕ) (x : A) → slice_get xs i ≡ Some x → P x) → P y
    → (i : ℕ) (x : A) → slice_get (xs ++ y ∷ []) i ≡ Some x → P x
each_push P xs y h last i x at = elim (front_or_last xs y i x at) [
  | inl old ↦ h i x old
  | inr new ↦ subst P (sym new.1) last
]
