use Rattle.event_core.proofs.SwapRefusalProperties.{swap_as_load, load_as_swap}
use Rattle.event_core.proofs.laws.runs.swap_is_refused_as_its_load.Goals as goal

pub returns : goal.returns
returns c =
    λ m log u x site r n. (λ h. swap_as_load m log u x site r n h, λ h. load_as_swap m log u x site r n h)
