-- Small facts about truth values and lists.
use Rattle.std.proofs.Common.{◌≡◌, ℕ, ◌+◌, ◌<◌, ◌≤◌, Bool, true, false, inl, inr, ◌||◌, ◌&&◌, List, []}
use Rattle.std.proofs.Common.{◌∷◌, ◌++◌, length, nat_eq, Result, Ok, Err, get_or, set, refl, sym, ap, subst}
use Rattle.std.proofs.Common.{◌∙◌, arith}
use Rattle.std.specs.List.{list_any}
use Rattle.std.specs.Prelude.{OnErr, max}
use Rattle.std.proofs.lemmas.Bool.{cases_eq, eq-eqb, ne_eqb, or_left, or_right}
use Rattle.std.proofs.lemmas.List.{get_or-set_same, get_or-set_other, ext_get_or}
use Rattle.std.proofs.lemmas.List.Folds.{list_any-append}

-- what holds in any case holds of a refusal
pub refused : {T E : Type 0} (r : Result T E) (P : Type 0) → P → OnErr r P
refused (Ok x) P p = tt
refused (Err e) P p = p

-- false adds nothing to an alternative
pub or_false : (b : Bool) → (b || false) ≡ b
or_false true = refl
or_false false = refl

-- true adds nothing to a conjunction
pub and_true : (b : Bool) → (b && true) ≡ b
and_true true = refl
and_true false = refl

-- a fact of each place after a write
pub at_set : {A : Type 0} (d : A) (P : ℕ → A → Type 0) (xs : List A) (at : ℕ) (x : A) → at < length xs
    → P at x
    → (i : ℕ) → ((i ≡ at → ⊥) → P i (get_or xs i d)) → P i (get_or (set xs at x) i d)
at_set d P xs at x h p i q = elim (cases_eq i at) [
  | inl e ↦ subst (λ (b : ℕ). P b (get_or (set xs at x) b d)) (sym e)
      (subst (P at) (sym (get_or-set_same xs at x d h)) p)
  | inr n ↦ subst (P i) (sym (get_or-set_other xs at i x d n)) (q n)
]

-- a list that was long enough, and that reads as it did, is the same
pub long_enough : {A : Type 0} (d : A) (old new : List A) (n : ℕ) → n < length old → length old ≤ length new
    → length new ≤ max (length old) (n + 1) → ((i : ℕ) → get_or new i d ≡ get_or old i d) → new ≡ old
long_enough d old new n below more most same =
    ext_get_or d new old (omega (arith, below, more, most)) (λ i lt. same i)

-- what is in a list with one more at its end
pub any_left : (xs : List ℕ) (at i : ℕ) → list_any (nat_eq i) (xs ++ at ∷ []) ≡ true → (i ≡ at → ⊥)
    → list_any (nat_eq i) xs ≡ true
any_left xs at i e n =
    sym (list_any-append (nat_eq i) xs (at ∷ [])
    ∙ ap (λ b. list_any (nat_eq i) xs || (b || false)) (ne_eqb i at n) ∙ or_false (list_any (nat_eq i) xs))
    ∙ e

-- the last element is in the list
pub any_here : (xs : List ℕ) (at : ℕ) → list_any (nat_eq at) (xs ++ at ∷ []) ≡ true
any_here xs at =
    list_any-append (nat_eq at) xs (at ∷ [])
    ∙ ap (λ b. list_any (nat_eq at) xs || (b || false)) (eq-eqb at at refl)
    ∙ or_right (list_any (nat_eq at) xs) true refl

-- what is in a list is in each longer one
pub any_more : (xs : List ℕ) (at i : ℕ) → list_any (nat_eq i) xs ≡ true
    → list_any (nat_eq i) (xs ++ at ∷ []) ≡ true
any_more xs at i e = list_any-append (nat_eq i) xs (at ∷ []) ∙ or_left (list_any (nat_eq i) xs) _ e
