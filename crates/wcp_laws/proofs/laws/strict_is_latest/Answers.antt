use Rattle.wcp_laws.proofs.ConditionsProperties.{strict_is_latest}
use Rattle.wcp_laws.proofs.laws.strict_is_latest.Goals as goal

pub returns : goal.returns
returns c = strict_is_latest
