use Rattle.wcp_laws.proofs.ConditionsProperties.{counted_earlier}
use Rattle.wcp_laws.proofs.laws.counted_earlier.Goals as goal

pub returns : goal.returns
returns c = counted_earlier
