use Rattle.wcp_laws.proofs.ConditionsProperties.{releases_above}
use Rattle.wcp_laws.proofs.laws.releases_above.Goals as goal

pub returns : goal.returns
returns c = releases_above
