use Rattle.event_core.proofs.BelowProperties.{sections_ordered}
use Rattle.event_core.proofs.OrderlyProperties.{orderly}
use Rattle.event_core.proofs.laws.order.sections_are_ordered.Goals as goal

pub returns : goal.returns
returns c = λ m log u v l a r b s w p q lt. sections_ordered (orderly m log w) p q lt
