use Rattle.event_core.proofs.RunProperties.{act_run_is_unique}
use Rattle.event_core.proofs.laws.runs.act_run_is_unique.Goals as goal

pub returns : goal.returns
returns c = act_run_is_unique
