-- What waits in a window.
use Rattle.std.proofs.Common.{◌≡◌, ℕ, ◌+◌, ◌-◌, ◌≤◌, List, ◌++◌, length, take, drop, sym, ap, ◌∙◌, arith}
use Rattle.std.proofs.lemmas.List.{drop-take, drop-drop, length-take, length-take-le, length-append}

pub skipped : (xs : List ℕ) (a b n : ℕ) → n ≤ length (take (b - a) (drop a xs))
    → take (b - (a + n)) (drop (a + n) xs) ≡ drop n (take (b - a) (drop a xs))
skipped xs a b n h =
    let lt = length-take (b - a) (drop a xs) in
    let e : b - a ≡ n + (b - (a + n)) = omega (arith, lt, h) in
    sym (ap (λ (k : ℕ). drop n (take k (drop a xs))) e ∙ drop-take n (b - (a + n)) (drop a xs) ∙ ap
    (λ (t : List ℕ). take (b - (a + n)) t) (drop-drop n a xs))

-- a piece that was read over another is as long
pub read_over : (n : ℕ) (old new : List ℕ) → n ≡ length old → length new ≡ length old
    → length (take n (new ++ drop (length new) old)) ≡ length old
read_over n old new is same =
    let both = length-append new (drop (length new) old) in
    length-take-le n (new ++ drop (length new) old) (omega (arith, both, is, same)) ∙ is
