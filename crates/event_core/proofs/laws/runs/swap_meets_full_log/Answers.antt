use Rattle.event_core.proofs.SwapRefusalProperties.{swap_full, swap_full_from}
use Rattle.event_core.proofs.laws.runs.swap_meets_full_log.Goals as goal

pub returns : goal.returns
returns c = λ m log u x site. (λ h. swap_full m log u x site h, λ h. swap_full_from m log u x site h.0 h.1)
