-- Numbers that are written in digits.
use Rattle.std.specs.Prelude.{
  ℕ,
  ◌+◌,
  ◌-◌,
  ◌*◌,
  ◌^◌,
  ◌&&◌,
  Bool,
  List,
  length,
  fold,
  nat_lt,
  Option,
  Some,
  None,
  if◌then◌else◌,
}
use Rattle.std.specs.Char.{is_ascii_digit}
use Rattle.std.specs.List.{list_all}

-- one more digit
abbrev pub with_digit : ℕ → ℕ → ℕ
with_digit n d = n * 10 + (d - 48)

-- the number that decimal digits spell
abbrev pub decimal_value : List ℕ → ℕ
decimal_value digits = fold with_digit 0 digits

-- 1 to 20 digits, of a number that a u64 holds
abbrev pub is_number : List ℕ → Bool
is_number digits =
    nat_lt 0 (length digits) && (nat_lt (length digits) 21 && (list_all is_ascii_digit digits
    && nat_lt (decimal_value digits) (2 ^ 64)))

unfoldable pub number_of : List ℕ → Option ℕ
number_of digits = if is_number digits then Some (decimal_value digits) else None
