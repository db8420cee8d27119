use Rattle.section_sum.proofs.StandsForProperties.{others_leave_them}
use Rattle.section_sum.proofs.laws.others_leave_them.Goals as goal

pub returns : goal.returns
returns c = others_leave_them
