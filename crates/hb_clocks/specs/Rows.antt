-- Rows of clocks, of which one without numbers was not made.
use Rattle.std.specs.Prelude.{◌≡◌, ℕ, ◌<◌, List, [], length, slice_index_or}
use Rattle.hb_clocks.specs.Counts.{counts_of}

abbrev pub row_at : List (List ℕ) → ℕ → List ℕ
row_at rows t = slice_index_or rows t []

abbrev pub widths_of : List (List ℕ) → ℕ → ℕ
widths_of rows t = length (row_at rows t)

-- zeros where there is no clock
abbrev pub rows_of : List (List ℕ) → ℕ → ℕ → ℕ
rows_of rows t = counts_of (row_at rows t)

-- the clock was made
pub record IsMade (width : ℕ) (rows : List (List ℕ)) (t : ℕ) : Type 0 where
  pub wide : widths_of rows t ≡ width

-- a clock that has numbers has the width
pub record AreWide (width : ℕ) (rows : List (List ℕ)) : Type 0 where
  pub wide : (t : ℕ) → 0 < widths_of rows t → widths_of rows t ≡ width
