-- A text that is taken in pieces: how far it was taken, and where it stands if it was not read to its end.
use Rattle.std.specs.Prelude.{◌≡◌, ℕ, ◌+◌, ◌≤◌, List, [], ◌++◌, length, Option}
use Rattle.std.specs.Io.KnownBytes.{Consumes}
use Rattle.rapid_line.specs.Cut.{Lacks, count, after_last}
use Rattle.rapid_line.specs.Lines.{Lines, most_kept}
use Rattle.rapid_text.specs.Cutting.{Cutting}

-- the number and the bytes of the line whose end was not seen, and how many bytes came
pub record Place : Type 0 where
  pub unfinished : ℕ
  pub kept : List ℕ
  pub taken : ℕ

abbrev pub lines_place : Lines → Place
lines_place s = record { unfinished = s.unfinished; kept = s.kept; taken = s.taken }

abbrev pub cutter_place : Cutting → Place
cutter_place s = record { unfinished = s.unfinished; kept = s.kept; taken = s.taken }

-- before the first byte
abbrev pub start : Place
start = record { unfinished = 1; kept = []; taken = 0 }

-- the bytes of a line whose end was not seen: no LF, and no more of them than of a line that may be short
-- enough
abbrev pub AreUnended : List ℕ → Type 0
AreUnended kept = Lacks 10 kept × (length kept ≤ most_kept)

-- all bytes but the rest were taken
pub record Advances (old : Place) (bytes rest : List ℕ) (new : Place) : Type 0 where
  -- each LF ends a line, and what follows the last one is kept
  pub lines : new.unfinished + count 10 rest ≡ old.unfinished + count 10 bytes
  pub kept : after_last 10 (new.kept ++ rest) ≡ after_last 10 (old.kept ++ bytes)
  pub unended : AreUnended old.kept → AreUnended new.kept
  pub taken : new.taken + length rest ≡ old.taken + length bytes

-- these bytes came of the text, which was not read to its end for this reason; line n is the one whose end
-- was not seen
pub record Truncates (left rest : Option (List ℕ)) (Why : List ℕ → Type 0) (n : ℕ) (So : List ℕ → Type 0)
    : Type 0 where
  pub came : List ℕ
  pub bytes : Consumes left rest came
  pub why : Why came
  pub at : n ≡ 1 + count 10 came
  -- with one byte more than this it is too long
  pub short : length (after_last 10 came) ≤ most_kept
  pub so : So came
