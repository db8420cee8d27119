-- The join of two clocks of one width.
use Rattle.std.proofs.Common.{◌≡◌, ℕ, ◌+◌, ◌-◌, ◌<◌, ◌≤◌, ◌++◌, List, length, max, get_or, ap, ap₂}
use Rattle.std.proofs.Common.{sym, ◌∙◌, inl, inr, ◌⊎◌, take, drop, arith}
use Rattle.std.specs.Simd.Lanes.{zip2}
use Rattle.std.proofs.lemmas.Simd.{length-zip2, get_or-zip2}
use Rattle.std.proofs.lemmas.Bool.{cases_lt}
use Rattle.std.proofs.lemmas.List.{get_or_past, get_or-append_right, get_or-drop, get_or-take}
use Rattle.std.proofs.lemmas.List.{get_or_append_left}
use Rattle.std.proofs.Math.Nat.{max-zero}
use Rattle.event_core.specs.Rows.{join}
use Rattle.hb_clocks.specs.Counts.{counts_of}

-- the list of the greater numbers counts as the join does
pub joined_counts : (xs ys : List ℕ) → length xs ≡ length ys
    → counts_of (zip2 max xs ys) ≡ join (counts_of xs) (counts_of ys)
joined_counts xs ys same i u = at (cases_lt u (length xs)) i
  where
    at : (u < length xs) ⊎ (length xs ≤ u) → get_or (zip2 max xs ys) u 0 ≡ max (get_or xs u 0) (get_or ys u 0)
    at (inl lt) = get_or-zip2 max xs ys u 0 0 0 lt (omega arith)
    at (inr le) =
        let width = length-zip2 max xs ys same in
        get_or_past (zip2 max xs ys) u 0 (omega arith)
        ∙ sym (ap₂ max (get_or_past xs u 0 le) (get_or_past ys u 0 (omega arith)))

-- the same, of one thread
pub joined_at : (xs ys : List ℕ) (u : ℕ) → length xs ≡ length ys
    → counts_of (zip2 max xs ys) u ≡ max (counts_of xs u) (counts_of ys u)
joined_at xs ys u same = ap (λ (f : ℕ → ℕ). f u) (joined_counts xs ys same)

-- where the first numbers of a clock are joined with those of a shorter list, the clock is joined with it
pub front_joined : (joined mine theirs : List ℕ) → length theirs ≤ length mine
    → length joined ≡ length theirs
    → ((k : ℕ) → k < length theirs
    → get_or joined k 0 ≡ max (get_or (take (length theirs) mine) k 0) (get_or theirs k 0))
    → counts_of (joined ++ drop (length theirs) mine) ≡ join (counts_of mine) (counts_of theirs)
front_joined joined mine theirs within width counts i u = at (cases_lt u (length theirs)) i
  where
    n : ℕ
    n = length theirs

    at : (u < n) ⊎ (n ≤ u)
        → get_or (joined ++ drop n mine) u 0 ≡ max (get_or mine u 0) (get_or theirs u 0)
    at (inl lt) =
        get_or_append_left joined (drop n mine) 0 u (omega arith)
        ∙ (counts u lt ∙ ap (λ k. max k (get_or theirs u 0)) (get_or-take n mine u 0 lt))
    at (inr le) =
        let place : n + (u - n) ≡ u = omega arith in
        get_or-append_right joined (drop n mine) n u 0 width le
        ∙ (get_or-drop n mine (u - n) 0
        ∙ (ap (λ k. get_or mine k 0) place
        ∙ sym (ap (λ k. max (get_or mine u 0) k) (get_or_past theirs u 0 le)
        ∙ max-zero (get_or mine u 0))))
