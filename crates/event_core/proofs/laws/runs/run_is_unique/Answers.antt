use Rattle.event_core.proofs.WellFormedProperties.{run_is_unique}
use Rattle.event_core.proofs.laws.runs.run_is_unique.Goals as goal

pub returns : goal.returns
returns c = run_is_unique
