use Rattle.hb_clocks.proofs.LegalSteps.{step_stands}
use Rattle.hb_clocks.proofs.laws.step_stands.Goals as goal

pub returns : goal.returns
returns c = step_stands
