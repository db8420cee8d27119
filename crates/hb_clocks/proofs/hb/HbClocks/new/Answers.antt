use Rattle.std.proofs.Common.{[], sym, subst, arith}
use Rattle.std.proofs.lemmas.Grind.{common_steps}
use Rattle.hb_clocks.specs.Standing.{StandsFor}
use Rattle.hb_clocks.proofs.StandsForProperties.{empty_stands}
use Rattle.hb_clocks.proofs.hb.HbClocks.new.Goals as goal

pub returns-clause-empty : goal.returns-clause-empty
returns-clause-empty c = grind (arith, common_steps)

pub returns-clause-stands : goal.returns-clause-stands
returns-clause-stands c = subst (StandsFor []) (sym (returns-clause-empty c)) empty_stands
