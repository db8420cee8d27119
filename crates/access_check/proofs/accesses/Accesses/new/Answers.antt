use Rattle.std.proofs.Common.{[], sym, subst, arith}
use Rattle.std.proofs.lemmas.Grind.{common_steps}
use Rattle.access_check.specs.Standing.{StandsFor}
use Rattle.access_check.proofs.StandsForProperties.{empty_stands}
use Rattle.access_check.proofs.accesses.Accesses.new.Goals as goal

pub returns-clause-exact : goal.returns-clause-exact
returns-clause-exact c = grind (arith, common_steps)

pub returns-clause-stands : goal.returns-clause-stands
returns-clause-stands c = subst (StandsFor []) (sym (returns-clause-exact c)) (empty_stands c.args.limits)
