-- Tests on numbers, and functions with one value changed.
use Rattle.std.proofs.Common.{◌≡◌, ℕ, Bool, true, false, cond, nat_eq, ap, sym, subst, ◌∙◌, refl}
use Rattle.std.proofs.lemmas.Bool.{cases_eq, eq-eqb, ne_eqb}
use mathlib.Core.Logic.{inl, inr}
use Rattle.traced_mem.specs.After.{updated}

-- a number is found equal to itself
pub eqb_refl : (a : ℕ) → nat_eq a a ≡ true
eqb_refl a = eq-eqb a a refl

-- a changed function has the new value at its place
pub updated_same : {A : Type 0} (k : ℕ) (x : A) (f : ℕ → A) → updated k x f k ≡ x
updated_same k x f = ap (λ b. cond b x (f k)) (eqb_refl k)

-- a changed function has its old values elsewhere
pub updated_other : {A : Type 0} (k : ℕ) (x : A) (f : ℕ → A) (a : ℕ) → (a ≡ k → ⊥) → updated k x f a ≡ f a
updated_other k x f a n = ap (λ b. cond b x (f a)) (ne_eqb a k n)

-- a function that has the new value at its place, and the old values elsewhere, is the changed one
pub is_updated : {A : Type 0} (k : ℕ) (x : A) (f g : ℕ → A) → g k ≡ x
    → ((n : ℕ) → (n ≡ k → ⊥) → g n ≡ f n) → (n : ℕ) → g n ≡ updated k x f n
is_updated k x f g here there n = elim (cases_eq n k) [
  | inl same ↦ subst (λ m. g m ≡ updated k x f m) (sym same) (here ∙ sym (updated_same k x f))
  | inr other ↦ there n other ∙ sym (updated_other k x f n other)
]

-- a function that takes the new value by a test of the place is the changed one
pub updated_if : {A : Type 0} (k : ℕ) (x : A) (f : ℕ → A) (g : Bool → ℕ → A) → g true k ≡ x
    → ((n : ℕ) → g false n ≡ f n) → (n : ℕ) → g (nat_eq k n) n ≡ updated k x f n
updated_if k x f g here there =
    is_updated k x f (λ n. g (nat_eq k n) n) (ap (λ b. g b k) (eqb_refl k) ∙ here)
    (λ n other. ap (λ b. g b n) (ne_eqb k n (λ e. other (sym e))) ∙ there n)
