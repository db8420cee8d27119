-- A number in decimal is a location.
use Rattle.std.proofs.Common.{ℕ, ◌+◌, ◌≤◌, ◌<◌, ◌^◌, ◌/◌, ◌%◌, ◌++◌, List, [], ◌∷◌, refl, arith, ne_eqb}
use Rattle.std.specs.Prelude.{decimal}
use Rattle.std.proofs.lemmas.Fmt.{decimal_by_steps, length-decimal-le}
use Rattle.rapid_line.specs.Cut.{Lacks}
use Rattle.rapid_line.specs.Grammar.{IsField}
use Rattle.rapid_line.proofs.CutProperties.{Lacks-append}

record Plain (n : ℕ) (digits : List ℕ) : Type 0 where
  bar : Lacks 124 digits
  lf : Lacks 10 digits
  cr : Lacks 13 digits

one_digit : (n : ℕ) → n < 10 → Plain n ((48 + n) ∷ [])
one_digit n h = record {
  bar = rw (ne_eqb (48 + n) 124 (λ e. omega arith)) refl;
  lf = rw (ne_eqb (48 + n) 10 (λ e. omega arith)) refl;
  cr = rw (ne_eqb (48 + n) 13 (λ e. omega arith)) refl;
}

more_digits : (n : ℕ) (digits : List ℕ) → 10 ≤ n → Plain (n / 10) digits
    → Plain n (digits ++ ((48 + n % 10) ∷ []))
more_digits n digits h p =
    let last = one_digit (n % 10) (omega arith) in
    record {
      bar = Lacks-append 124 digits ((48 + n % 10) ∷ []) p.bar last.bar;
      lf = Lacks-append 10 digits ((48 + n % 10) ∷ []) p.lf last.lf;
      cr = Lacks-append 13 digits ((48 + n % 10) ∷ []) p.cr last.cr;
    }

pub decimal_is_field : (n : ℕ) → n < 2 ^ 64 → IsField (decimal n)
decimal_is_field n h =
    let plain : Plain n (decimal n) = decimal_by_steps Plain one_digit more_digits n h in
    let short = length-decimal-le 20 n (omega arith) (omega arith) h in
    record { bar = plain.bar; lf = plain.lf; cr = plain.cr; short = omega (arith, short) }
