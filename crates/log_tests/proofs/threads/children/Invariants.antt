use Rattle.std.proofs.Common.{◌≡◌, None}
use Rattle.event_core.specs.Steps.{log_of}
use Rattle.traced_mem.specs.Standing.{StandsFor}
use Rattle.log_tests.proofs.threads.children.Given as goal

abbrev pub invariant-loop-child : goal.invariant-loop-child
invariant-loop-child g l = record {
  holds_none : l.keeper.held ≡ None;
  limits : l.memory.limits ≡ g.N.Name.limits;
  stands : StandsFor (log_of l.keeper.steps) l.memory;
}
