use Rattle.event_core.proofs.SwapRefusalProperties.{swap_legal}
use Rattle.event_core.proofs.StepsProperties.{follow_formed}
use Rattle.event_core.proofs.laws.runs.swaps_keep_logs_well_formed.Goals as goal

pub returns : goal.returns
returns c = λ m log u x site arg w h. follow_formed m log _ w (swap_legal m log u x site arg w h)
