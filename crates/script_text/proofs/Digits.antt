-- The value of digits, as it grows.
use Rattle.std.proofs.Common.{◌≡◌, ℕ, ◌+◌, ◌-◌, ◌*◌, ◌<◌, ◌≤◌, ◌^◌, List, [], ◌∷◌, length, take, drop, get_or}
use Rattle.std.proofs.Common.{refl, ap, ◌∙◌, sym, arith, Some, None, true, false, take-append-drop}
use Rattle.std.specs.Prelude.{fold}
use Rattle.std.specs.List.{list_all}
use Rattle.std.specs.Char.{is_ascii_digit}
use Rattle.std.proofs.lemmas.Bool.Decides.{nat_tests}
use Rattle.std.proofs.lemmas.List.Sums.{fold-append, fold_more}
use Rattle.std.proofs.lemmas.List.Folds.{list_all_at}
use Rattle.script_text.specs.Numbers.{with_digit, decimal_value, number_of}

-- more digits make no smaller number
value_grows : (n : ℕ) (ds : List ℕ) → n ≤ fold with_digit n ds
value_grows n [] = omega arith
value_grows n (d ∷ ds) = let h = value_grows (with_digit n d) ds in omega (arith, h)

value_of_front : (ds : List ℕ) (i : ℕ) → decimal_value (take i ds) ≤ decimal_value ds
value_of_front ds i =
    let whole : decimal_value ds ≡ fold with_digit (decimal_value (take i ds)) (drop i ds) =
    ap decimal_value (sym (take-append-drop i ds)) ∙ fold-append with_digit 0 (take i ds) (drop i ds) in
    let more = value_grows (decimal_value (take i ds)) (drop i ds) in
    omega (arith, whole, more)

-- the number is too large from these digits on
pub too_large : (ds : List ℕ) (i : ℕ) → 2 ^ 64 ≤ decimal_value (take i ds) → number_of ds ≡ None
unfolding number_of
too_large ds i h = let all = value_of_front ds i in grind (arith, nat_tests, all, h)

-- the value of one more digit
pub one_more : (ds : List ℕ) (i : ℕ) → i < length ds
    → decimal_value (take (i + 1) ds) ≡ decimal_value (take i ds) * 10 + (get_or ds i 0 - 48)
one_more ds i lt = fold_more with_digit 0 ds i 0 lt

-- a byte is no digit
pub no_digit : (ds : List ℕ) (i : ℕ) → i < length ds → is_ascii_digit (get_or ds i 0) ≡ false
    → number_of ds ≡ None
unfolding number_of
no_digit ds i lt h = let none = list_all_at is_ascii_digit ds i 0 lt h in grind (arith, nat_tests, none)

-- all bytes are digits
pub all_digits : (ds : List ℕ) → 0 < length ds → length ds < 21 → list_all is_ascii_digit ds ≡ true
    → decimal_value ds < 2 ^ 64 → number_of ds ≡ Some (decimal_value ds)
unfolding number_of
all_digits ds some short digits fits = grind (arith, nat_tests)

-- there are none, or too many
pub no_length : (ds : List ℕ) → length ds ≡ 0 → number_of ds ≡ None
unfolding number_of
no_length ds h = rw h refl

pub too_many : (ds : List ℕ) → 20 < length ds → number_of ds ≡ None
unfolding number_of
too_many ds h = grind (arith, nat_tests)
