-- Where the bars of a line stand, and where it ends.
use Rattle.std.specs.Prelude.{◌≡◌, ◌≢◌, ℕ, ◌<◌, ◌≤◌, List, length, slice_index, IfSome}
use Rattle.std.specs.Int.{bit_at}
use Rattle.rapid_line.specs.declared.marks.Marks.{Marks}
use Rattle.rapid_line.specs.declared.marks.Line.{Line}
use Rattle.rapid_line.specs.Cut.{Lacks}

-- bit k tells whether byte k of the text is this byte, for the bytes that are seen
pub record Tell (seen : ℕ) (text : List ℕ) (byte bits : ℕ) : Type 0 where
  pub set : (k : ℕ) → bit_at bits k ≡ 1 → (k < seen) × (slice_index text k ≡ byte)
  pub clear : (k : ℕ) → k < seen → bit_at bits k ≡ 0 → slice_index text k ≢ byte

-- the first line of the text ends at the end, has these two bars and no other, and no CR
pub record IsMarked (text : List ℕ) (m : Marks) : Type 0 where
  pub ordered : m.first_bar < m.second_bar
  pub inside : m.second_bar < m.end
  pub near : m.end < 64
  pub within : m.end < length text
  pub first_bar : slice_index text m.first_bar ≡ 124
  pub second_bar : slice_index text m.second_bar ≡ 124
  pub end : slice_index text m.end ≡ 10
  pub no_bar : (k : ℕ) → k < m.end → k ≢ m.first_bar → k ≢ m.second_bar → slice_index text k ≢ 124
  pub no_lf : (k : ℕ) → k < m.end → slice_index text k ≢ 10
  pub no_cr : (k : ℕ) → k < m.end → slice_index text k ≢ 13

-- the line has bars at these two places and at no other, no CR, and no more bytes than a content may have
pub record IsBarred (bytes : List ℕ) (first second : ℕ) : Type 0 where
  pub ordered : first < second
  pub inside : second < length bytes
  pub short : length bytes ≤ 1024
  pub first_bar : slice_index bytes first ≡ 124
  pub second_bar : slice_index bytes second ≡ 124
  pub no_bar : (k : ℕ) → k < length bytes → k ≢ first → k ≢ second → slice_index bytes k ≢ 124
  pub no_cr : Lacks 13 bytes

-- what is said of the line's bars is so
abbrev pub IsKnown : Line → Type 0
IsKnown line = IfSome line.bars (λ bars. IsBarred line.bytes.now bars.0 bars.1)
