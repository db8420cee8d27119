use Rattle.hb_clocks.proofs.StandsForProperties.{few_in_log}
use Rattle.hb_clocks.proofs.laws.few_in_log.Goals as goal

pub returns : goal.returns
returns c = few_in_log
