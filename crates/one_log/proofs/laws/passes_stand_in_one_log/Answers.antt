use Rattle.one_log.proofs.IsPublishedProperties.{one_log}
use Rattle.one_log.proofs.laws.passes_stand_in_one_log.Goals as goal

pub returns : goal.returns
returns c = one_log
