-- What the bits of a look at so many bytes tell.
use Rattle.std.proofs.Common.{◌≡◌, ℕ, zero, suc, ◌+◌, ◌-◌, ◌/◌, ◌%◌, ◌^◌, ◌<◌, ◌≤◌, Bool, true, false, cond}
use Rattle.std.proofs.Common.{true≢false, eqb, List, [], ◌∷◌, length, get_or, map, refl, sym, ap, ◌∙◌}
use Rattle.std.proofs.Common.{arith, w64, inl, inr}
use Rattle.std.specs.Prelude.{◌≢◌, ◌==◌, count_ones}
use Rattle.std.specs.Int.{bit_at, trailing_zeros}
use Rattle.std.specs.Int.Bits.{bit_and, and_step, and_self}
use Rattle.std.specs.Int.Count.{count_trailing_zeros, under, ones_step}
use Rattle.std.specs.Simd.Lanes.{chunk, mask_l}
use Rattle.std.proofs.lemmas.Bool.{cases_lt, eqb-true, eq-eqb}
use Rattle.std.proofs.lemmas.Nat.{ones_le_self, zero_from_ones}
use Rattle.std.proofs.lemmas.Nat.Bits.{bit_at-suc, bit_at-zero, bit_at_lowest, bit_at_and, bit_at-lt}
use Rattle.std.proofs.lemmas.Nat.Bits.{bit_at-trailing_zeros}
use Rattle.std.proofs.lemmas.List.{get_or-map, length-map}
use Rattle.std.proofs.lemmas.Simd.{length-chunk, get_or-chunk, bit_mask_l}
use Rattle.rapid_line.specs.Marks.{Tell}

-- ---- the lowest bit that is set

-- the bits of the number before b, whose lowest bit is t
record Before (b t : ℕ) : Type 0 where
  below : (k : ℕ) → k < t → bit_at (b - 1) k ≡ 1
  at : bit_at (b - 1) t ≡ 0
  above : (k : ℕ) → t < k → bit_at (b - 1) k ≡ bit_at b k

before_even : (b t : ℕ) → 0 < b → b % 2 ≡ 0 → Before (b / 2) t → Before b (suc t)
before_even b t some even half = record {
  below = below;
  at = rw (bit_at-suc (b - 1) t, halves) half.at;
  above = above;
}
  where
    halves : (b - 1) / 2 ≡ b / 2 - 1
    halves = omega (arith, even)

    below : (k : ℕ) → k < suc t → bit_at (b - 1) k ≡ 1
    below zero lt = omega (arith, bit_at_lowest (b - 1), even, some)
    below (suc k) lt = rw (bit_at-suc (b - 1) k, halves) (half.below k (omega (arith, lt)))

    above : (k : ℕ) → suc t < k → bit_at (b - 1) k ≡ bit_at b k
    above zero lt = absurd (omega arith)
    above (suc k) lt = rw (bit_at-suc (b - 1) k, bit_at-suc b k, halves) (half.above k (omega (arith, lt)))

before_odd : (b : ℕ) → b % 2 ≡ 1 → Before b 0
before_odd b odd = record {
  below = λ k lt. absurd (omega (arith, lt));
  at = omega (arith, bit_at_lowest (b - 1), odd);
  above = above;
}
  where
    above : (k : ℕ) → 0 < k → bit_at (b - 1) k ≡ bit_at b k
    above zero lt = absurd (omega arith)
    above (suc k) lt =
        let halves : (b - 1) / 2 ≡ b / 2 = omega (arith, odd) in
        rw (bit_at-suc (b - 1) k, bit_at-suc b k, halves) refl

before_by : (b t d : ℕ) → 0 < b → b % 2 ≡ d → (d ≡ 0 → Before (b / 2) t) → Before b (under d t)
before_by b t zero some is half = before_even b t some is (half refl)
before_by b t (suc d) some is half = before_odd b (omega (arith, is))

before : (w b : ℕ) → 0 < b → b < 2 ^ w → Before b (count_trailing_zeros w b)
unfolding count_trailing_zeros
before zero b some few = absurd (omega (arith, some, few))
before (suc w) b some few =
    before_by b (count_trailing_zeros w (b / 2)) (b % 2) some refl
    (λ even. before w (b / 2) (omega (arith, even, some)) (omega (arith, few)))

-- ---- and a number without it

-- a number without its lowest bit keeps all its other bits
pub others_kept : (b : ℕ) → 0 < b → b < 2 ^ 64 → (k : ℕ) → k ≢ trailing_zeros w64 b
    → bit_at (bit_and b (b - 1)) k ≡ bit_at b k
others_kept b some few k other =
    let both = bit_at_and b (b - 1) k in
    elim (cases_lt k (trailing_zeros w64 b)) [
      | inl lt ↦ omega (arith, both, (bit_at-trailing_zeros w64 b some few).2 k lt)
      | inr le ↦ omega (arith, both, (before 64 b some few).above k (omega (arith, le, other)))
    ]

-- the bits of a number without its lowest bit stand above that bit
pub others_later : (b : ℕ) → 0 < b → b < 2 ^ 64 → (k : ℕ) → bit_at (bit_and b (b - 1)) k ≡ 1
    → trailing_zeros w64 b < k
others_later b some few k set =
    let t = trailing_zeros w64 b in
    let both = bit_at_and b (b - 1) k in
    let apart : k ≢ t = λ is.
    let none = ap (bit_at (b - 1)) is ∙ (before 64 b some few).at in
    omega (arith, both, set, none) in
    let not_below : k < t → ⊥ = λ lt.
    omega (arith, both, set, (bit_at-trailing_zeros w64 b some few).2 k lt) in
    omega (arith, apart, not_below)

-- a number without its lowest bit has one bit fewer
pub one_fewer : (w b : ℕ) → 0 < b → b < 2 ^ w → count_ones b ≡ count_ones (bit_and b (b - 1)) + 1
one_fewer zero b some few = absurd (omega (arith, some, few))
one_fewer (suc w) b some few =
    let rest = bit_and b (b - 1) in
    let step = and_step b (b - 1) in
    elim (cases_lt (b % 2) 1) [
      | inl even ↦
          let halves : (b - 1) / 2 ≡ b / 2 - 1 = omega (arith, even) in
          let half : rest / 2 ≡ bit_and (b / 2) (b / 2 - 1) =
          omega (arith, step, even) ∙ ap (bit_and (b / 2)) halves in
          let later = one_fewer w (b / 2) (omega (arith, even, some)) (omega (arith, few)) in
          omega (arith, ones_step b, ones_step rest, ap count_ones half, later, step, even)
      | inr odd ↦
          let halves : (b - 1) / 2 ≡ b / 2 = omega (arith, odd) in
          let half : rest / 2 ≡ b / 2 =
          omega (arith, step, odd) ∙ ap (bit_and (b / 2)) halves ∙ and_self (b / 2) in
          omega (arith, ones_step b, ones_step rest, ap count_ones half, step, odd)
    ]

-- in a number of one bit no other bit is set
pub only_one : (b : ℕ) → b < 2 ^ 64 → count_ones b ≡ 1 → (k : ℕ) → k ≢ trailing_zeros w64 b
    → bit_at b k ≡ 0
only_one b few one k other =
    let some : 0 < b = omega (arith, one, ones_le_self b) in
    let none : bit_and b (b - 1) ≡ 0 =
    zero_from_ones (bit_and b (b - 1)) (omega (arith, one, one_fewer 64 b some few)) in
    sym (others_kept b some few k other) ∙ ap (λ n. bit_at n k) none ∙ bit_at-zero k

-- ---- one look

-- whether each of so many bytes is the byte
abbrev equals : ℕ → List ℕ → ℕ → List Bool
equals seen text byte = map (λ x. eqb x byte) (chunk 0 seen text)

equal_at : (seen : ℕ) (text : List ℕ) (byte k : ℕ) → seen ≤ length text → k < seen
    → get_or (equals seen text byte) k false ≡ (get_or text k 0 == byte)
equal_at seen text byte k long lt =
    let seen_bytes = length-chunk 0 seen text (omega (arith, long)) in
    let place : 0 + k ≡ k = omega arith in
    get_or-map (λ x. eqb x byte) (chunk 0 seen text) k 0 false (omega (arith, seen_bytes, lt))
    ∙ ap (λ x. eqb x byte) (get_or-chunk 0 seen text k 0 lt ∙ ap (λ j. get_or text j 0) place)

lane_within : (xs : List Bool) (k : ℕ) → get_or xs k false ≡ true → k < length xs
lane_within [] k e = absurd cc
lane_within (x ∷ xs) zero e = omega arith
lane_within (x ∷ xs) (suc k) e = let rest = lane_within xs k e in omega (arith, rest)

bit_tells : (x : Bool) → (cond {A = ℕ} x 1 0 ≡ 1 → x ≡ true) × (cond {A = ℕ} x 1 0 ≡ 0 → x ≡ false)
bit_tells true = (λ e. refl, λ e. absurd (omega arith))
bit_tells false = (λ e. absurd (omega arith), λ e. refl)

-- the bits of a comparison with a byte tell where it stands
pub compared : (seen : ℕ) (text : List ℕ) (byte : ℕ) → seen ≤ length text
    → Tell seen text byte (mask_l (map (λ x. eqb x byte) (chunk 0 seen text)))
compared seen text byte long =
    let same = equals seen text byte in
    let lanes = length-map (chunk 0 seen text) (λ x. eqb x byte) in
    let seen_bytes = length-chunk 0 seen text (omega (arith, long)) in
    record {
      set = λ k one.
          let here : get_or same k false ≡ true =
          (bit_tells (get_or same k false)).0 (sym (bit_mask_l same k) ∙ one) in
          let lt : k < seen = omega (arith, lane_within same k here, lanes, seen_bytes) in
          (lt, eqb-true (get_or text k 0) byte (sym (equal_at seen text byte k long lt) ∙ here));
      clear = λ k lt none is.
          let there : get_or same k false ≡ false =
          (bit_tells (get_or same k false)).1 (sym (bit_mask_l same k) ∙ none) in
          true≢false (sym (eq-eqb (get_or text k 0) byte is)
          ∙ sym (equal_at seen text byte k long lt) ∙ there);
    }

-- the bits below the first LF tell where the byte stands in the first line
pub told_in_line : (seen : ℕ) (text : List ℕ) (byte bits ends : ℕ) → byte ≢ 10 → ends ≢ 0 → ends < 2 ^ 64
    → Tell seen text 10 ends → Tell seen text byte bits
    → Tell (trailing_zeros w64 ends) text byte (bit_and bits (ends - 1))
told_in_line seen text byte bits ends no_lf some few lfs h =
    let t = trailing_zeros w64 ends in
    let lowest = bit_at-trailing_zeros w64 ends (omega (arith, some)) few in
    let prior = before 64 ends (omega (arith, some)) few in
    record {
      set = λ k one.
          let both = bit_at_and bits (ends - 1) k in
          let in_bits : bit_at bits k ≡ 1 =
          omega (arith, both, one, bit_at-lt bits k, bit_at-lt (ends - 1) k) in
          let in_ends : bit_at (ends - 1) k ≡ 1 =
          omega (arith, both, one, bit_at-lt bits k, bit_at-lt (ends - 1) k) in
          let is = (h.set k in_bits).1 in
          let apart : k ≢ t = λ same. omega (arith, in_ends, ap (bit_at (ends - 1)) same ∙ prior.at) in
          let not_after : t < k → ⊥ = λ lt.
          no_lf (sym is ∙ (lfs.set k (sym (prior.above k lt) ∙ in_ends)).1) in
          (omega (arith, apart, not_after), is);
      clear = λ k lt none.
          h.clear k (omega (arith, lt, (lfs.set t lowest.1).0))
          (omega (arith, bit_at_and bits (ends - 1) k, none, prior.below k lt, bit_at-lt bits k));
    }
