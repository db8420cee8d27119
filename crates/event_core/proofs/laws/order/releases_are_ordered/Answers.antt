use Rattle.event_core.proofs.BelowProperties.{sections_ordered}
use Rattle.event_core.proofs.OrderlyProperties.{orderly}
use Rattle.event_core.proofs.OrderProperties.{hb_trans, hb_thread}
use Rattle.event_core.proofs.LogProperties.{of_does}
use Rattle.event_core.proofs.laws.order.releases_are_ordered.Goals as goal

pub returns : goal.returns
returns c = λ m log u v l a r b s w p q lt.
    hb_trans (sections_ordered (orderly m log w) p q lt)
    (hb_thread v (of_does q.inside.opened.does) (of_does q.closed.does) q.inside.from)
