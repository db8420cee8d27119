use Rattle.event_core.proofs.BelowProperties.{verdict_is_unique}
use Rattle.event_core.proofs.laws.runs.verdict_is_unique.Goals as goal

pub returns : goal.returns
returns c = verdict_is_unique
