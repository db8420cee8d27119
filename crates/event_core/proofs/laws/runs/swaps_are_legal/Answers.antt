use Rattle.event_core.proofs.SwapRefusalProperties.{swap_legal}
use Rattle.event_core.proofs.laws.runs.swaps_are_legal.Goals as goal

pub returns : goal.returns
returns c = swap_legal
