use Rattle.std.proofs.Common.{rules}
use Rattle.access_check.specs.VariableAccesses.{no_accesses}
use Rattle.access_check.proofs.tables.grow_vars.Goals as goal

pub returns-clause-same : goal.returns-clause-same
returns-clause-same c x = c.grow_to.ensures.same no_accesses (λ accesses given. search rules) x
