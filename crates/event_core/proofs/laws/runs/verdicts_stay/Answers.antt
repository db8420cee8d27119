use Rattle.event_core.proofs.RelationsStay.{verdict_too, longer, back}
use Rattle.event_core.proofs.laws.runs.verdicts_stay.Goals as goal

pub returns : goal.returns
returns c =
    λ log more j v lt. (
      λ x. verdict_too j v (longer log more) lt x,
      λ x. verdict_too j v
          (back (longer log more)) lt x,
    )
