-- The lines of a text that comes in pieces.
use Rattle.std.proofs.Common.{
  ◌≡◌,
  ℕ,
  ◌+◌,
  ◌<◌,
  ◌≤◌,
  false,
  List,
  [],
  ◌∷◌,
  ◌++◌,
  length,
  Option,
  Some,
  None,
  refl,
  sym,
  ap,
  subst,
  ◌∙◌,
  append_assoc,
  append-nil,
  length-append,
  arith,
}
use Rattle.std.specs.Prelude.{◌==◌}
use Rattle.std.proofs.lemmas.Bool.{or_parts}
use Rattle.std.proofs.lemmas.Bool.Decides.{nat_tests}
use Rattle.rapid_line.specs.Cut.{has, Lacks, cut}
use Rattle.rapid_line.specs.Lines.{Lines, onto_first, lines_of, line_start, to_come, Cuts, Keeps, IsTooLong}
use Rattle.rapid_line.specs.Lines.{most_kept}
use Rattle.rapid_line.proofs.CutProperties.{Lacks-append, IsCut-at, cut_None}

-- what stands before the first LF is the first line, and the lines of the rest follow
pub lines_of_line : (a b : List ℕ) → Lacks 10 a → lines_of (a ++ 10 ∷ b) ≡ a ∷ lines_of b
lines_of_line [] b h = refl
lines_of_line (x ∷ a) b h = grind (arith, nat_tests, lines_of_line a b)

-- a text without LF that is not empty is one line
pub lines_of_rest : (x : ℕ) (a : List ℕ) → Lacks 10 (x ∷ a) → lines_of (x ∷ a) ≡ (x ∷ a) ∷ []
lines_of_rest x [] h = grind (arith, nat_tests)
lines_of_rest x (y ∷ a) h = grind (arith, nat_tests, lines_of_rest y a)

-- the first line of the text begins with these bytes
pub record Begins (a text : List ℕ) : Type 0 where
  pub first : List ℕ
  pub rest : List (List ℕ)
  pub is : lines_of text ≡ (a ++ first) ∷ rest

onto_begins : (x : ℕ) (a text : List ℕ) → (x == 10) ≡ false → Begins a text → Begins (x ∷ a) (x ∷ text)
onto_begins x a text n h = record { first = h.first; rest = h.rest; is = rw (n, h.is) refl }

onto_cases : (x : ℕ) (ls : List (List ℕ))
    → (first : List ℕ) × (rest : List (List ℕ)) × (onto_first x ls ≡ (x ∷ first) ∷ rest)
onto_cases x [] = ([], [], refl)
onto_cases x (l ∷ ls) = (l, ls, refl)

-- the first line of a text begins with all that stands before an LF
pub begins : (x : ℕ) (a more : List ℕ) → Lacks 10 (x ∷ a) → Begins (x ∷ a) ((x ∷ a) ++ more)
begins x [] more h =
    let n = (or_parts (x == 10) false h).0 in
    let o = onto_cases x (lines_of more) in
    record { first = o.0; rest = o.1; is = rw (n, o.2) refl }
begins x (y ∷ a) more h =
    let parts = or_parts (x == 10) (has 10 (y ∷ a)) h in
    onto_begins x (y ∷ a) ((y ∷ a) ++ more) parts.0 (begins y a more parts.1)

-- what stands before the first LF
line_start-Lacks : (xs : List ℕ) → Lacks 10 xs → line_start xs ≡ xs
line_start-Lacks [] h = refl
line_start-Lacks (x ∷ xs) h = grind (arith, nat_tests, line_start-Lacks xs)

line_start-line : (a b : List ℕ) → Lacks 10 a → line_start (a ++ 10 ∷ b) ≡ a
line_start-line [] b h = refl
line_start-line (x ∷ a) b h = grind (arith, nat_tests, line_start-line a b)

-- ---- the answers of a cutter

regroup : (kept end rest more : List ℕ)
    → kept ++ ((end ++ 10 ∷ rest) ++ more) ≡ (kept ++ end) ++ 10 ∷ (rest ++ more)
regroup kept end rest more =
    ap (λ (t : List ℕ). kept ++ t) (append_assoc end (10 ∷ rest) more)
    ∙ sym (append_assoc kept end (10 ∷ (rest ++ more)))

-- whatever follows, the line comes first, and then the lines of the rest
line_first : (kept piece end rest more : List ℕ) → Lacks 10 kept → Some (end, rest) ≡ cut 10 piece
    → lines_of (kept ++ (piece ++ more)) ≡ (kept ++ end) ∷ lines_of (rest ++ more)
line_first kept piece end rest more lf e =
    let c = IsCut-at 10 piece (end, rest) (sym e) in
    ap (λ (t : List ℕ). lines_of (kept ++ (t ++ more))) c.is
    ∙ ap (λ (t : List ℕ). lines_of t) (regroup kept end rest more)
    ∙ lines_of_line (kept ++ end) (rest ++ more) (Lacks-append 10 kept end lf c.lacks)

-- a line that ends in the piece is what was kept and what stands before the first LF
pub cuts : {old new : Lines} {piece line end rest : List ℕ} → Lacks 10 old.kept
    → Some (end, rest) ≡ cut 10 piece → line ≡ old.kept ++ end → new.kept ≡ []
    → new.unfinished ≡ old.unfinished + 1 → new.taken ≡ old.taken + (length end + 1)
    → Cuts old piece line rest new
cuts {old} {new} {piece} {line} {end} {rest} lf e whole none number taken = record {
  law = λ more. line_first old.kept piece end rest more lf e
      ∙ ap (λ (l : List ℕ). l ∷ lines_of (rest ++ more)) (sym whole)
      ∙ ap (λ (k : List ℕ). line ∷ lines_of (k ++ (rest ++ more))) (sym none);
  end = end;
  first = sym e;
  whole = whole;
  lf = subst (λ (t : List ℕ). Lacks 10 t) (sym whole)
      (Lacks-append 10 old.kept end lf (IsCut-at 10 piece (end, rest) (sym e)).lacks);
  kept = none;
  unfinished = number;
  taken = taken;
}

-- whatever follows a piece that was kept, the lines to come are the same
pub keeps_law : {old new : Lines} {piece : List ℕ} → Keeps old piece new → (more : List ℕ)
    → to_come old (piece ++ more) ≡ to_come new more
keeps_law {old} {piece = piece} k more =
    ap (λ (t : List ℕ). lines_of t) (sym (append_assoc old.kept piece more))
    ∙ ap (λ (t : List ℕ). lines_of (t ++ more)) (sym k.kept)

-- a piece is as long as the end of its first line, the LF and the rest
pub end_within : (piece end rest : List ℕ) → Some (end, rest) ≡ cut 10 piece
    → length end + 1 + length rest ≡ length piece
end_within piece end rest e =
    let c = IsCut-at 10 piece (end, rest) (sym e) in
    let parts = length-append end (10 ∷ rest) in
    let same = ap (λ (t : List ℕ). length t) c.is in
    omega arith

-- a line that ended after more than 1,025 bytes is too long
pub long_line : (old : Lines) (piece end rest : List ℕ) → Lacks 10 old.kept
    → Some (end, rest) ≡ cut 10 piece → most_kept < length (old.kept ++ end) → IsTooLong old piece
long_line old piece end rest lf e long =
    let c = IsCut-at 10 piece (end, rest) (sym e) in
    let start : line_start piece ≡ end =
    ap (λ (t : List ℕ). line_start t) c.is ∙ line_start-line end rest c.lacks in
    record {
      long = subst (λ (t : List ℕ). most_kept < length (old.kept ++ t)) (sym start) long;
      law = λ more.
          (old.kept ++ end, lines_of (rest ++ more), line_first old.kept piece end rest more lf e, long);
    }

too_long : (bytes more : List ℕ) → Lacks 10 bytes → most_kept < length bytes
    → (line : List ℕ) × (others : List (List ℕ)) × (lines_of (bytes ++ more) ≡ line ∷ others)
    × (most_kept < length line)
too_long [] more lf long = absurd (omega arith)
too_long (x ∷ a) more lf long =
    let b = begins x a more lf in
    let parts = length-append (x ∷ a) b.first in
    ((x ∷ a) ++ b.first, b.rest, b.is, omega (arith, parts))

-- a line that goes on after more than 1,025 bytes is too long
pub long_rest : (old : Lines) (piece : List ℕ) → Lacks 10 old.kept → None ≡ cut 10 piece
    → most_kept < length (old.kept ++ piece) → IsTooLong old piece
long_rest old piece lf e long =
    let none = cut_None 10 piece (sym e) in
    record {
      long = subst (λ (t : List ℕ). most_kept < length (old.kept ++ t))
          (sym (line_start-Lacks piece none)) long;
      law = λ more.
          let found = too_long (old.kept ++ piece) more (Lacks-append 10 old.kept piece lf none) long in
          let text = ap (λ (t : List ℕ). lines_of t) (sym (append_assoc old.kept piece more)) in
          (found.0, found.1, text ∙ found.2, found.3);
    }

-- what is kept, if it is not empty, is the last line of a text that ends there
pub last_line : (kept : List ℕ) → Lacks 10 kept → 0 < length kept → lines_of (kept ++ []) ≡ kept ∷ []
last_line [] lf some = absurd (omega arith)
last_line (x ∷ a) lf some = ap (λ (t : List ℕ). lines_of t) (append-nil (x ∷ a)) ∙ lines_of_rest x a lf

-- what is known of the line that a cutter gives, or of the part that it keeps
pub ruleset next_lines = (long_line, long_rest, end_within, cut_None, Lacks-append, length-append)
