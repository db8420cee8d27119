use Rattle.wcp_laws.proofs.LegalSteps.{step_stands}
use Rattle.wcp_laws.proofs.laws.step_stands.Goals as goal

pub returns : goal.returns
returns c = step_stands
