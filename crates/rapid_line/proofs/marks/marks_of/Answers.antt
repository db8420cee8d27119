use Rattle.std.proofs.Common.{◌≡◌, ◌<◌, sym, ap, ◌∙◌, arith, w64}
use Rattle.std.specs.Prelude.{count_ones}
use Rattle.std.specs.Int.{bit_at, trailing_zeros}
use Rattle.std.proofs.lemmas.Nat.{ones_le_self}
use Rattle.std.proofs.lemmas.Nat.Bits.{bit_at-zero, bit_at-trailing_zeros}
use Rattle.rapid_line.proofs.TellProperties.{only_one}
use Rattle.rapid_line.proofs.marks.marks_of.Goals as goal

pub returns : goal.returns
returns g c =
    let ends = c.places-ends in
    let bars = c.places_in_line-bars in
    let later = c.without_lowest in
    let first = trailing_zeros w64 bars.result in
    let second = trailing_zeros w64 later.result in
    let some : 0 < bars.result = omega (arith, ones_le_self bars.result, c.if-bars-ne2.false) in
    let one : count_ones later.result ≡ 1 = omega (arith, later.ensures.fewer, c.if-bars-ne2.false) in
    let end_set = bit_at-trailing_zeros w64 ends.result (omega (arith, c.if-ends-eq0.false)) ends.type_inv in
    let first_set = bit_at-trailing_zeros w64 bars.result some bars.type_inv in
    let second_set = bit_at-trailing_zeros w64 later.result
    (omega (arith, ones_le_self later.result, one)) later.type_inv in
    let ordered : first < second = later.ensures.later second second_set.1 in
    let end_at = ends.ensures.set (trailing_zeros w64 ends.result) end_set.1 in
    let first_bar = bars.ensures.set first first_set.1 in
    let second_bar = bars.ensures.set second
    (sym (later.ensures.kept second (λ is. omega (arith, is, ordered))) ∙ second_set.1) in
    record {
      ordered = ordered;
      inside = second_bar.0;
      near = omega (arith, end_at.0, c.requires);
      within = omega (arith, end_at.0, c.if-text.false);
      first_bar = first_bar.1;
      second_bar = second_bar.1;
      end = end_at.1;
      no_bar = λ k lt not_first not_second.
          bars.ensures.clear k lt (sym (later.ensures.kept k not_first)
          ∙ only_one later.result later.type_inv one k not_second);
      no_lf = λ k lt. ends.ensures.clear k (omega (arith, lt, end_at.0)) (end_set.2 k lt);
      no_cr = λ k lt. c.places_in_line.ensures.clear k lt
          (ap (λ n. bit_at n k) c.if-places_in_line-ne0.false ∙ bit_at-zero k);
    }
