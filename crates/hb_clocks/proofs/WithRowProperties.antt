-- Rows of which one is written.
use Rattle.std.proofs.Common.{◌≡◌, ℕ, Bool, true, false, cond, nat_eq, sym, ap, ◌∙◌, inl, inr, ◌⊎◌, refl}
use Rattle.std.proofs.lemmas.Bool.{cases_eq}
use Rattle.event_core.specs.Rows.{with_row}
use Rattle.event_core.proofs.RowsAfterProperties.{row_same, row_other}

-- the row that was written
pub row_here : {A : Type 0} (t : ℕ) (g : A) (f : ℕ → A) (a : ℕ) → a ≡ t → with_row t g f a ≡ g
row_here t g f a is = ap (with_row t g f) is ∙ row_same t g f

-- a row that is written with what it has
pub row_kept : {A : Type 0} (t : ℕ) (g : A) (f : ℕ → A) → f t ≡ g → with_row t g f ≡ f
row_kept t g f e i a = go (cases_eq a t) i
  where
    go : (a ≡ t) ⊎ (a ≡ t → ⊥) → with_row t g f a ≡ f a
    go (inl is) = row_here t g f a is ∙ sym e ∙ ap f (sym is)
    go (inr other) = row_other t g f a other

-- a row that is written twice
pub row_again : {A : Type 0} (t : ℕ) (g h : A) (f : ℕ → A) → with_row t g (with_row t h f) ≡ with_row t g f
row_again t g h f i a = go (nat_eq a t) i
  where
    go : (b : Bool) → cond b g (cond b h (f a)) ≡ cond b g (f a)
    go true = refl
    go false = refl
