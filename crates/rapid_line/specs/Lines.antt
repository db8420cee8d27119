-- A text in pieces, cut into lines.
use Rattle.std.specs.Prelude.{
  ◌≡◌,
  ℕ,
  ◌+◌,
  ◌<◌,
  ◌==◌,
  List,
  [],
  ◌∷◌,
  ◌++◌,
  length,
  Option,
  Some,
  None,
  IfSome,
  if◌then◌else◌,
}
use Rattle.rapid_line.specs.declared.marks.Line.{Line}
use Rattle.rapid_line.specs.declared.line_cutter.CutLine.{CutLine}
use Rattle.rapid_line.specs.Cut.{Lacks, cut}
use Rattle.rapid_line.specs.Marks.{IsKnown}

abbrev pub onto_first : ℕ → List (List ℕ) → List (List ℕ)
onto_first b [] = (b ∷ []) ∷ []
onto_first b (l ∷ ls) = (b ∷ l) ∷ ls

-- the lines of a text, each without its LF; an empty rest after the last LF is no line
abbrev pub lines_of : List ℕ → List (List ℕ)
lines_of [] = []
lines_of (b ∷ bs) = if b == 10 then [] ∷ lines_of bs else onto_first b (lines_of bs)

-- what stands before the first LF, and all where there is none
abbrev pub line_start : List ℕ → List ℕ
line_start [] = []
line_start (b ∷ bs) = if b == 10 then [] else b ∷ line_start bs

-- what a line cutter holds: the number and the bytes of the line whose end was not seen, the last line that
-- did not lie whole in a piece, and how many bytes came
pub record Lines : Type 0 where
  pub unfinished : ℕ
  pub kept : List ℕ
  pub joined : List ℕ
  pub taken : ℕ

-- before the first byte
abbrev pub no_bytes : Lines
no_bytes = record { unfinished = 1; kept = []; joined = []; taken = 0 }

-- the most bytes that a cutter takes, 2 ^ 60
abbrev pub most : ℕ
most = 1152921504606846976

-- the most bytes that are kept of a line whose end was not seen: a content of 1,024 bytes, and a CR
abbrev pub most_kept : ℕ
most_kept = 1025

-- the lines that are still to come, if these bytes follow
abbrev pub to_come : Lines → List ℕ → List (List ℕ)
to_come s more = lines_of (s.kept ++ more)

abbrev pub whole_or : List ℕ → Option Line → List ℕ
whole_or joined None = joined
whole_or joined (Some line) = line.bytes.now

-- the bytes of a line that the cutter gave
abbrev pub text_of : Lines → CutLine → List ℕ
text_of s l = whole_or s.joined l.whole

-- what is said of its bars is so
abbrev pub IsKnownCut : CutLine → Type 0
IsKnownCut l = IfSome l.whole IsKnown

-- a line ended in the piece, and the rest is still to be cut
pub record Cuts (old : Lines) (piece line rest : List ℕ) (new : Lines) : Type 0 where
  -- whatever follows, it is the next line of the text, and the others come after it
  pub law : (more : List ℕ) → to_come old (piece ++ more) ≡ line ∷ to_come new (rest ++ more)
  -- it is what was kept, and what stands before the first LF of the piece
  pub end : List ℕ
  pub first : cut 10 piece ≡ Some (end, rest)
  pub whole : line ≡ old.kept ++ end
  pub lf : Lacks 10 line
  pub kept : new.kept ≡ []
  pub unfinished : new.unfinished ≡ old.unfinished + 1
  pub taken : new.taken ≡ old.taken + (length end + 1)

-- no line ended in the piece: it is kept
pub record Keeps (old : Lines) (piece : List ℕ) (new : Lines) : Type 0 where
  pub unended : Lacks 10 piece
  pub kept : new.kept ≡ old.kept ++ piece
  pub unfinished : new.unfinished ≡ old.unfinished
  pub taken : new.taken ≡ old.taken + length piece

-- so many bytes came of a line that it is too long, whether its end was seen or not
pub record IsTooLong (old : Lines) (piece : List ℕ) : Type 0 where
  pub long : most_kept < length (old.kept ++ line_start piece)
  -- whatever follows, the next line of the text is too long
  pub law : (more : List ℕ) → (line : List ℕ) × (others : List (List ℕ))
      × (to_come old (piece ++ more) ≡ line ∷ others) × (most_kept < length line)

-- the text ended, and this is its last line
pub record IsLastLine (old : Lines) (line : List ℕ) (new : Lines) : Type 0 where
  pub law : to_come old [] ≡ line ∷ []
  pub whole : line ≡ old.kept
  pub lf : Lacks 10 line
  pub kept : new.kept ≡ []
  pub unfinished : new.unfinished ≡ old.unfinished + 1
  pub taken : new.taken ≡ old.taken
