-- Clocks of releases, of which the numbers from just before are kept.
use Rattle.std.specs.Prelude.{ℕ, ◌≡◌, ◌+◌, ◌-◌, ◌<◌, ◌≤◌, List, ◌++◌, length, slice_set}
use Rattle.std.proofs.Math.ListN.{take, drop}
use Rattle.event_core.specs.Rows.{with_row}
use Rattle.hb_clocks.specs.Counts.{counts_of}

-- the clock just before a release by the thread
abbrev pub before : ℕ → (ℕ → ℕ) → ℕ → ℕ
before t c = with_row t (c t - 1) c

-- the same in lists: the numbers just before, and those of the release again
abbrev pub lowered : ℕ → List ℕ → List ℕ
lowered t counts = slice_set counts t (counts_of counts t - 1)

abbrev pub raised : ℕ → List ℕ → List ℕ
raised t counts = slice_set counts t (counts_of counts t + 1)

-- the numbers of all releases that are kept, and for how many there is memory
pub record KeptNumbers : Type 0 where
  pub numbers : List ℕ
  pub most : ℕ

-- where the numbers of one release stand among them, and how many they are
pub record Place : Type 0 where
  pub width : ℕ
  pub start : ℕ

abbrev pub numbers_at : List ℕ → Place → List ℕ
numbers_at numbers p = take p.width (drop p.start numbers)

-- the numbers are there
pub record IsReadable (numbers : List ℕ) (p : Place) : Type 0 where
  pub within : p.start + p.width ≤ length numbers

-- the clock of a release by the thread, of so many numbers at most, comes after all others at the place
pub record IsAdded (old new : List ℕ) (by : ℕ) (p : Place) (width : ℕ) (clock : ℕ → ℕ) : Type 0 where
  pub added : List ℕ
  pub numbers : new ≡ old ++ added
  pub start : p.start ≡ length old
  pub count : p.width ≡ length added
  pub marked : by < length added
  pub release : counts_of (raised by added) ≡ clock
  pub within : length added ≤ width
