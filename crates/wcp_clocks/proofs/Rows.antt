-- Rows that are written.
use Rattle.std.proofs.Common.{◌≡◌, ℕ, max, sym, subst, ◌∙◌, arith, List, length, ap, inl, inr, ◌⊎◌}
use Rattle.std.proofs.lemmas.List.{ext_get_or}
use Rattle.hb_clocks.specs.Counts.{counts_of}
use Rattle.hb_clocks.specs.Rows.{row_at, rows_of, IsMade}
use Rattle.std.proofs.lemmas.Bool.{cases_eq}
use Rattle.event_core.specs.Rows.{no_clock, join, with_row, to_child}
use Rattle.event_core.specs.Effect.{Effect, Forks}
use Rattle.event_core.proofs.RowsAfterProperties.{row_same, row_other}

-- the row of the event's own thread
pub own_row : (k : Effect) (t : ℕ) (g : ℕ → ℕ) (f : ℕ → ℕ → ℕ) → to_child k g (with_row t g f) t ≡ g
own_row (Forks u) t g f = go (cases_eq t u.0)
  where
    go : (t ≡ u.0) ⊎ (t ≡ u.0 → ⊥) → with_row u.0 g (with_row t g f) t ≡ g
    go (inl q) = subst (λ b. with_row u.0 g (with_row t g f) b ≡ g) (sym q) (row_same u.0 g (with_row t g f))
    go (inr n) = row_other u.0 g (with_row t g f) t n ∙ row_same t g f
own_row _ t g f = row_same t g f

-- the clock of zeros adds nothing to a join
pub join_nothing : (f : ℕ → ℕ) → join f no_clock ≡ f
join_nothing f i u = go u i
  where
    go : (u : ℕ) → max (f u) 0 ≡ f u
    go u = omega arith

-- a clock with the numbers of a row that was made is that row
pub row_is : (rows : List (List ℕ)) (t width : ℕ) (clock : List ℕ) → length clock ≡ width
    → counts_of clock ≡ rows_of rows t → IsMade width rows t → clock ≡ row_at rows t
row_is rows t width clock wide counts made =
    ext_get_or 0 clock (row_at rows t) (wide ∙ sym made.wide) (λ i within. ap (λ (f : ℕ → ℕ). f i) counts)
