use Rattle.event_core.proofs.WellFormedProperties.{outcome_is_unique}
use Rattle.event_core.proofs.laws.runs.outcome_is_unique.Goals as goal

pub returns : goal.returns
returns c = outcome_is_unique
