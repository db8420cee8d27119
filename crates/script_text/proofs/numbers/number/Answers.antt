use Rattle.std.proofs.Common.{arith, ◌∙◌, sym, ap, ◌+◌, ◌≤◌, ◌^◌, ◌≡◌, take, length, Some, subst, true}
use Rattle.std.specs.Char.{is_ascii_digit}
use Rattle.std.specs.List.{list_all}
use Rattle.std.proofs.lemmas.Bool.{eqb-true}
use Rattle.std.proofs.lemmas.List.{take_all}
use Rattle.std.proofs.lemmas.List.Folds.{list_all_more}
use Rattle.rapid_line.proofs.ReadingProperties.{positive}
use Rattle.script_text.specs.Numbers.{decimal_value}
use Rattle.script_text.proofs.Digits.{too_large, one_more, no_digit, all_digits, no_length, too_many}
use Rattle.script_text.proofs.numbers.number.Goals as goal

pub returns-then-is_empty : goal.returns-then-is_empty
returns-then-is_empty c = sym (no_length c.args.digits.now (eqb-true (length c.args.digits.now) 0
    (sym c.is_empty.ensures ∙ c.if-is_empty.true)))

pub returns-then-digits-gt20 : goal.returns-then-digits-gt20
returns-then-digits-gt20 c = sym (too_many c.args.digits.now c.if-digits-gt20.true)

pub returns-then-not-is_ascii_digit : goal.returns-then-not-is_ascii_digit
returns-then-not-is_ascii_digit c = sym (no_digit c.args.digits.now c.digits.digit-index c.digits-test.true
    (sym c.is_ascii_digit.ensures.value ∙ c.if-not-is_ascii_digit.true))

pub returns-in_err-tens : goal.returns-in_err-tens
returns-in_err-tens c =
    let more = one_more c.args.digits.now c.digits.digit-index c.digits-test.true in
    let big : 2 ^ 64 ≤ decimal_value (take (c.digits.digit-index + 1) c.args.digits.now) =
    omega (arith, more, c.in_err-tens.ensures, c.digits.invariant.value) in
    c.from_residual.ensures ∙ sym (too_large c.args.digits.now (c.digits.digit-index + 1) big)

pub returns-in_err-value : goal.returns-in_err-value
returns-in_err-value c =
    let more = one_more c.args.digits.now c.digits.digit-index c.digits-test.true in
    let big : 2 ^ 64 ≤ decimal_value (take (c.digits.digit-index + 1) c.args.digits.now) =
    grind (arith, more, c.in_err-value.ensures, c.digits.invariant.value) in
    c.from_residual-in_err-value.ensures ∙ sym (too_large c.args.digits.now (c.digits.digit-index + 1) big)

pub returns : goal.returns
returns c =
    let whole = take_all c.digits.digit-index c.args.digits.now c.digits-test.false in
    let digits : list_all is_ascii_digit c.args.digits.now ≡ true =
    subst (λ ds. list_all is_ascii_digit ds ≡ true) whole c.digits.invariant.digits in
    let value : c.digits.value ≡ decimal_value c.args.digits.now =
    c.digits.invariant.value ∙ ap decimal_value whole in
    let some = positive (length c.args.digits.now) (sym c.is_empty.ensures ∙ c.if-is_empty.false) in
    ap Some value ∙ sym (all_digits c.args.digits.now some (omega (arith, c.if-digits-gt20.false)) digits
    (omega (arith, value, c.digits.invariant.fits)))

pub digits-preserved : goal.digits-preserved
digits-preserved c =
    let at = c.digits.digit-index in
    let more = list_all_more is_ascii_digit c.args.digits.now at 0 c.digits-test.true in
    let value = one_more c.args.digits.now at c.digits-test.true in
    grind (arith, more, value)
