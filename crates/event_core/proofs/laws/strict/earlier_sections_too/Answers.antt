use Rattle.event_core.proofs.BelowProperties.{sections_ordered}
use Rattle.event_core.proofs.OrderlyProperties.{orderly}
use Rattle.event_core.proofs.OrderProperties.{hb_trans, hb_thread}
use Rattle.event_core.proofs.LogProperties.{of_does}
use Rattle.event_core.specs.Wcp.{rule_c_left}
use Rattle.event_core.proofs.laws.strict.earlier_sections_too.Goals as goal

pub returns : goal.returns
returns c = λ m log u v l a r b s j w p q lt d.
    rule_c_left
    (hb_trans (hb_thread u (of_does p.inside.opened.does) (of_does p.closed.does) p.inside.from)
    (sections_ordered (orderly m log w) p q lt)) d
