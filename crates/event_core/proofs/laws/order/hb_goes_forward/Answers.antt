use Rattle.event_core.proofs.OrderProperties.{hb_forward}
use Rattle.event_core.proofs.laws.order.hb_goes_forward.Goals as goal

pub returns : goal.returns
returns c = λ log i j h. hb_forward h
