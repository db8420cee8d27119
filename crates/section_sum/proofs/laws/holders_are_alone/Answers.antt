use Rattle.section_sum.proofs.StandsForProperties.{holders_are_alone}
use Rattle.section_sum.proofs.laws.holders_are_alone.Goals as goal

pub returns : goal.returns
returns c = holders_are_alone
