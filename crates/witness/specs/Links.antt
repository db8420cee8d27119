-- What an event leads to: one index for each event, which is its own where it leads to no other.
use Rattle.std.specs.Prelude.{ℕ, List, Option, Some, None, nat_lt, slice_index, if◌then◌else◌}

-- the earlier event that k leads to by this index
abbrev pub back : ℕ → ℕ → Option ℕ
back link k = if nat_lt link k then Some link else None

-- the earlier event that k leads to by these
abbrev pub back_at : List ℕ → ℕ → Option ℕ
back_at links k = back (slice_index links k) k
