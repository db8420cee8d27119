-- Clocks of releases, of which there are the numbers just before.
use Rattle.std.proofs.Common.{◌≡◌, ℕ, ◌+◌, max, sym, ap, subst, ◌∙◌, inl, inr, ◌⊎◌, arith}
use Rattle.std.proofs.lemmas.Bool.{cases_eq}
use Rattle.event_core.specs.Rows.{join, bump, with_row}
use Rattle.event_core.proofs.RowsAfterProperties.{row_same, row_other}

-- the thread's own number grows by one
pub bump_same : (t : ℕ) (f : ℕ → ℕ) → bump t f t ≡ f t + 1
bump_same t f = row_same t (f t + 1) f

-- each other number stays
pub bump_other : (t : ℕ) (f : ℕ → ℕ) (u : ℕ) → (u ≡ t → ⊥) → bump t f u ≡ f u
bump_other t f u n = row_other t (f u + 1) f u n

-- the numbers before a release of t are joined, and then the release itself is counted
pub release_joined : (t : ℕ) (f g : ℕ → ℕ)
    → with_row t (max (join f g t) (g t + 1)) (join f g) ≡ join f (bump t g)
release_joined t f g i u = go (cases_eq u t) i
  where
    counted : ℕ → ℕ
    counted = with_row t (max (join f g t) (g t + 1)) (join f g)

    here : counted t ≡ join f (bump t g) t
    here =
        let mine : counted t ≡ max (join f g t) (g t + 1) = row_same t (max (join f g t) (g t + 1))
        (join f g) in
        let theirs : bump t g t ≡ g t + 1 = bump_same t g in
        omega arith

    go : (u ≡ t) ⊎ (u ≡ t → ⊥) → counted u ≡ join f (bump t g) u
    go (inl e) = subst (λ v. counted v ≡ join f (bump t g) v) (sym e) here
    go (inr n) =
        row_other t (max (join f g t) (g t + 1)) (join f g) u n ∙ ap (max (f u)) (sym (bump_other t g u n))
