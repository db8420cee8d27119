-- The fields between bars whose places are known.
use Rattle.std.proofs.Common.{◌≡◌, ℕ, ◌+◌, ◌-◌, ◌<◌, ◌≤◌, false, List, length}
use Rattle.std.proofs.Common.{get_or, take, drop, Some, Ok, refl, sym, ap, ◌∙◌, arith}
use Rattle.std.specs.Prelude.{nat_lt}
use Rattle.std.proofs.lemmas.List.{get_or-take, get_or-drop, length-take-le, length-drop}
use Rattle.std.proofs.lemmas.Bool.{eqb-true, eq-eqb, le-ltb}
use Rattle.rapid_line.specs.Cut.{has, Lacks, cut}
use Rattle.rapid_line.specs.Reading.{fields_of, line_of, and_then, operation_of, names_of}
use Rattle.rapid_line.specs.declared.marks.Marks.{Marks}
use Rattle.rapid_line.specs.Marks.{IsMarked, IsBarred}
use Rattle.rapid_line.proofs.CutProperties.{cut_first_byte, lacks_below}

-- what stands after a place
abbrev pub after : ℕ → List ℕ → List ℕ
after i xs = take (length xs - (i + 1)) (drop (i + 1) xs)

length-after : (i : ℕ) (xs : List ℕ) → length (after i xs) ≡ length xs - (i + 1)
length-after i xs = length-take-le (length xs - (i + 1)) (drop (i + 1) xs)
    (omega (arith, length-drop (i + 1) xs))

get_or-after : (i : ℕ) (xs : List ℕ) (k : ℕ) → k < length xs - (i + 1)
    → get_or (after i xs) k 0 ≡ get_or xs (i + 1 + k) 0
get_or-after i xs k lt =
    get_or-take (length xs - (i + 1)) (drop (i + 1) xs) k 0 lt ∙ get_or-drop (i + 1) xs k 0

-- the fields of a line stand before, between and after its two bars
pub fields_barred : (bytes : List ℕ) (first second : ℕ) → IsBarred bytes first second
    → fields_of bytes ≡ Ok (
      take first bytes,
      take (second - first - 1) (after first bytes),
      after (second - first - 1) (after first bytes),
    )
fields_barred bytes first second h =
    let rest = after first bytes in
    let at = second - first - 1 in
    let len : length rest ≡ length bytes - (first + 1) = length-after first bytes in
    let cut_one : cut 124 bytes ≡ Some (take first bytes, rest) =
    cut_first_byte 124 bytes first (omega (arith, h.ordered, h.inside))
    (λ k _ lt is. h.no_bar k (omega (arith, h.ordered, h.inside)) (omega arith) (omega (arith, h.ordered))
    (eqb-true (get_or bytes k 0) 124 is)) (eq-eqb (get_or bytes first 0) 124 h.first_bar) in
    let place : first + 1 + at ≡ second = omega (arith, h.ordered) in
    let bar : get_or rest at 0 ≡ 124 =
    get_or-after first bytes at (omega (arith, h.ordered, h.inside))
    ∙ ap (λ j. get_or bytes j 0) place ∙ h.second_bar in
    let cut_two : cut 124 rest ≡ Some (take at rest, after at rest) =
    cut_first_byte 124 rest at (omega (arith, h.ordered, h.inside))
    (λ k _ lt is. h.no_bar (first + 1 + k) (omega (arith, h.inside)) (omega arith) (omega arith)
    (sym (get_or-after first bytes k (omega (arith, h.inside))) ∙ eqb-true (get_or rest k 0) 124 is))
    (eq-eqb (get_or rest at 0) 124 bar) in
    let last : has 124 (after at rest) ≡ false =
    lacks_below 124 (drop (at + 1) rest) (length rest - (at + 1)) (λ k _ lt is.
    h.no_bar (first + 1 + (at + 1 + k)) (omega (arith, h.ordered, h.inside)) (omega arith)
    (omega (arith, h.ordered))
    (sym (get_or-after first bytes (at + 1 + k) (omega arith))
    ∙ (sym (get_or-drop (at + 1) rest k 0) ∙ eqb-true (get_or (drop (at + 1) rest) k 0) 124 is))) in
    rw (cut_one, cut_two, last) refl

-- a short content without CR, whose fields are known, is read by its operation and its names
pub line_fielded : (bytes : List ℕ) (f : List ℕ × List ℕ × List ℕ) → length bytes ≤ 1024
    → Lacks 13 bytes → fields_of bytes ≡ Ok f
    → line_of bytes ≡ and_then (operation_of f.1) (λ o. names_of f.0 f.2 o.0 o.1)
unfolding line_of
line_fielded bytes f short cr is =
    let test : nat_lt 1024 (length bytes) ≡ false = le-ltb 1024 (length bytes) short in
    rw (test, cr, is) refl

-- ---- the first line of a text

-- a marked text is cut at the end of its first line
pub cut_marked : (text : List ℕ) (m : Marks) → IsMarked text m
    → cut 10 text ≡ Some (take m.end text, after m.end text)
cut_marked text m h =
    cut_first_byte 10 text m.end h.within
    (λ k _ lt is. h.no_lf k lt (eqb-true (get_or text k 0) 10 is)) (eq-eqb (get_or text m.end 0) 10 h.end)

-- the first line of a marked text has its bars where the marks are
pub barred_marked : (text : List ℕ) (m : Marks) → IsMarked text m
    → IsBarred (take m.end text) m.first_bar m.second_bar
barred_marked text m h =
    let len : length (take m.end text) ≡ m.end = length-take-le m.end text (omega (arith, h.within)) in
    record {
      ordered = h.ordered;
      inside = omega (arith, h.inside);
      short = omega (arith, h.near);
      first_bar = get_or-take m.end text m.first_bar 0 (omega (arith, h.ordered, h.inside)) ∙ h.first_bar;
      second_bar = get_or-take m.end text m.second_bar 0 h.inside ∙ h.second_bar;
      no_bar = λ k lt apart other is.
          h.no_bar k (omega arith) apart other (sym (get_or-take m.end text k 0 (omega arith)) ∙ is);
      no_cr = lacks_below 13 text m.end
          (λ k _ lt is. h.no_cr k lt (eqb-true (get_or text k 0) 13 is));
    }
