-- The numbers of a release's clock just before the release, and with it again.
use Rattle.std.proofs.Common.{◌≡◌, ℕ, ◌+◌, ◌-◌, ◌<◌, ◌≤◌, ◌⊎◌, List, length, set, sym, ap, subst, ◌∙◌, arith}
use Rattle.std.proofs.lemmas.Bool.{cases_lt, cases_eq}
use Rattle.std.proofs.lemmas.List.{get_or_past, get_or-set_same, get_or-set_other, set-set, set-get_or}
use mathlib.Core.Logic.{inl, inr}
use Rattle.event_core.specs.Rows.{bump, with_row}
use Rattle.event_core.proofs.RowsAfterProperties.{row_same, row_other}
use Rattle.hb_clocks.specs.Counts.{counts_of}
use Rattle.hb_clocks.specs.Releases.{before, lowered, raised}
use Rattle.hb_clocks.proofs.JoinReleaseLaws.{bump_same, bump_other}

-- a thread that is counted has a number
pub counted_within : (ns : List ℕ) (t : ℕ) → 0 < counts_of ns t → t < length ns
counted_within ns t some = go (cases_lt t (length ns))
  where
    go : (t < length ns) ⊎ (length ns ≤ t) → t < length ns
    go (inl lt) = lt
    go (inr le) = let none : counts_of ns t ≡ 0 = get_or_past ns t 0 le in absurd (omega arith)

-- the number of a thread is written
pub counts_set : (ns : List ℕ) (t n : ℕ) → t < length ns → counts_of (set ns t n) ≡ with_row t n
    (counts_of ns)
counts_set ns t n lt i u = go (cases_eq u t) i
  where
    go : (u ≡ t) ⊎ (u ≡ t → ⊥) → counts_of (set ns t n) u ≡ with_row t n (counts_of ns) u
    go (inl is) =
        ap (counts_of (set ns t n)) is ∙ get_or-set_same ns t n 0 lt
        ∙ sym (ap (with_row t n (counts_of ns)) is ∙ row_same t n (counts_of ns))
    go (inr other) = get_or-set_other ns t u n 0 other ∙ sym (row_other t n (counts_of ns) u other)

-- a clock with one event more, just before that event
pub before_bumped : (t : ℕ) (f : ℕ → ℕ) (u : ℕ) → before t (bump t f) u ≡ f u
before_bumped t f u = go (cases_eq u t)
  where
    go : (u ≡ t) ⊎ (u ≡ t → ⊥) → before t (bump t f) u ≡ f u
    go (inl e) =
        subst (λ v. before t (bump t f) v ≡ f v) (sym e)
        (let one : bump t f t ≡ f t + 1 = bump_same t f in
        let own : before t (bump t f) t ≡ bump t f t - 1 = row_same t (bump t f t - 1) (bump t f) in
        omega arith)
    go (inr n) = row_other t (bump t f t - 1) (bump t f) u n ∙ bump_other t f u n

-- a clock that was lowered and is raised again is as it was
pub raised_lowered : (t : ℕ) (ns : List ℕ) → 0 < counts_of ns t → raised t (lowered t ns) ≡ ns
raised_lowered t ns some =
    let low : counts_of (lowered t ns) t ≡ counts_of ns t - 1
    = get_or-set_same ns t (counts_of ns t - 1) 0 (counted_within ns t some) in
    let own : counts_of (lowered t ns) t + 1 ≡ counts_of ns t = omega arith in
    set-set ns t (counts_of ns t - 1) (counts_of (lowered t ns) t + 1) ∙ ap (set ns t) own
    ∙ set-get_or ns t 0
