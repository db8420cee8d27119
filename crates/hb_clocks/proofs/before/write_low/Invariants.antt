use Rattle.std.proofs.Common.{◌≡◌, ℕ, ◌<◌, length}
use Rattle.hb_clocks.specs.Counts.{counts_of}
use Rattle.hb_clocks.proofs.before.write_low.Given as goal

-- the numbers below u are written
abbrev pub invariant-loop-u : goal.invariant-loop-u
invariant-loop-u l = record {
  width : length l.numbers ≡ length l.counts;
  written : (k : ℕ) → k < l.u → counts_of l.counts k < 4294967296
      → counts_of l.numbers k ≡ counts_of l.counts k;
}
