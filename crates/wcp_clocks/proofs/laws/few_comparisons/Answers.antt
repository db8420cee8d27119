use Rattle.wcp_clocks.proofs.WorkLaws.{few_comparisons}
use Rattle.wcp_clocks.proofs.laws.few_comparisons.Goals as goal

pub returns : goal.returns
returns c = few_comparisons
