-- The work that was done on clocks.
use Rattle.std.specs.Prelude.{ℕ, ◌+◌}

-- how many comparisons and joins were made
pub record Done : Type 0 where
  pub comparisons : ℕ
  pub joins : ℕ

-- so many joins more
abbrev pub more_joins : ℕ → Done → Done
more_joins n work = record work { joins = work.joins + n }
