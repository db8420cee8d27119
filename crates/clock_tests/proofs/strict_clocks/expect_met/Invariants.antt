use Rattle.std.specs.Prelude.{◌≡◌}
use Rattle.wcp_clocks.specs.MetReleases.{most_threads}
use Rattle.clock_tests.proofs.strict_clocks.expect_met.Given as goal

abbrev pub invariant-loop-row : goal.invariant-loop-row
invariant-loop-row g l = most_threads l.sources ≡ 3
