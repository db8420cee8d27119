use Rattle.wcp_clocks.proofs.WorkLaws.{little_work}
use Rattle.wcp_clocks.proofs.laws.little_work.Goals as goal

pub returns : goal.returns
returns c = little_work
