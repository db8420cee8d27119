use Rattle.event_core.proofs.OrderProperties.{chain_trans}
use Rattle.event_core.specs.Order.{here}
use Rattle.event_core.proofs.laws.order.po_is_order.Goals as goal

pub returns : goal.returns
returns c = λ log i g j. (here, λ a b. chain_trans a b)
