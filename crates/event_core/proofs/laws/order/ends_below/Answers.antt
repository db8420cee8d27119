use Rattle.event_core.proofs.BelowProperties.{ends_below}
use Rattle.event_core.proofs.OrderlyProperties.{orderly}
use Rattle.event_core.proofs.laws.order.ends_below.Goals as goal

pub returns : goal.returns
returns c = λ m log u v l a r b s w p q h. ends_below (orderly m log w) p q h
