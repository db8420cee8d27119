use Rattle.clock_tests.specs.OneLog.{StandForOneLog}
use Rattle.clock_tests.proofs.strict_clocks.follow.Given as goal

abbrev pub invariant-loop-index : goal.invariant-loop-index
invariant-loop-index g l = StandForOneLog l.memory l.clocks
