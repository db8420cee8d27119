use Rattle.std.proofs.Common.{◌≡◌, true, take, ◌<◌, ◌^◌}
use Rattle.std.specs.List.{list_all}
use Rattle.std.specs.Char.{is_ascii_digit}
use Rattle.script_text.specs.Numbers.{decimal_value}
use Rattle.script_text.proofs.numbers.number.Given as goal

abbrev pub invariant-digits : goal.invariant-digits
invariant-digits l = record {
  digits : list_all is_ascii_digit (take l.digit-index l.digits) ≡ true;
  fits : l.value < 2 ^ 64;
  value : l.value ≡ decimal_value (take l.digit-index l.digits);
}
