use Rattle.event_core.proofs.RelationsStay.{po_too, hb_too, strict_too, longer, back}
use Rattle.event_core.proofs.laws.strict.relations_stay.Goals as goal

pub returns : goal.returns
returns c = λ log more i j lt. (
  (λ x. po_too (longer log more) lt x, λ x. po_too (back (longer log more)) lt x),
  (λ x. hb_too (longer log more) lt x, λ x. hb_too (back (longer log more)) lt x),
  (λ x. strict_too (longer log more) lt x, λ x. strict_too (back (longer log more)) lt x),
)
