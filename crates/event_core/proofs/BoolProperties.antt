-- A test has one answer.
use Rattle.std.proofs.Common.{◌≡◌, ◌∙◌, ap, sym, refl, Bool, true, false, not}

-- no test is both true and false
pub not_both : {b : Bool} → b ≡ true → b ≡ false → ⊥
not_both is isnt = let both : true ≡ false = sym is ∙ isnt in cc

-- no test is true together with its negation
pub not_negated : {b : Bool} → b ≡ true → not b ≡ true → ⊥
not_negated is isnt = let both : false ≡ true = sym (ap not is) ∙ isnt in cc

-- the negation of a test that is not true is true
pub negated : (b : Bool) → (b ≡ true → ⊥) → not b ≡ true
negated true isnt = absurd (isnt refl)
negated false isnt = refl
