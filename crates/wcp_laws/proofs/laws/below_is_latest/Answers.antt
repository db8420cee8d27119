use Rattle.wcp_laws.proofs.ConditionsProperties.{below_is_latest}
use Rattle.wcp_laws.proofs.laws.below_is_latest.Goals as goal

pub returns : goal.returns
returns c = below_is_latest
