use Rattle.event_core.proofs.SwapRefusalProperties.{swap_allowed, swap_if_room}
use Rattle.event_core.proofs.laws.runs.swap_needs_two_slots.Goals as goal

pub returns : goal.returns
returns c = λ m log u x site. (λ h. swap_allowed m log u x site h, λ h. swap_if_room m log u x site h.0 h.1)
