use Rattle.event_core.proofs.OrderProperties.{po_forward}
use Rattle.event_core.proofs.laws.order.po_goes_forward.Goals as goal

pub returns : goal.returns
returns c = λ log i j h. po_forward h
