use Rattle.wcp_clocks.proofs.WorkLaws.{work_step}
use Rattle.wcp_clocks.proofs.laws.work_step.Goals as goal

pub returns : goal.returns
returns c = work_step
