-- A clock's numbers.
use Rattle.std.specs.Prelude.{◌≡◌, ℕ, ◌≤◌, List, slice_index, length}

-- the number of each thread, and 0 past the width
abbrev pub counts_of : List ℕ → ℕ → ℕ
counts_of counts u = slice_index counts u

-- from the thread on, each number is 0
pub record IsUnusedFrom (counts : List ℕ) (used : ℕ) : Type 0 where
  pub within : used ≤ length counts
  pub zero : (u : ℕ) → used ≤ u → counts_of counts u ≡ 0
