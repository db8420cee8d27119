use Rattle.event_core.proofs.RunProperties.{run_keeps}
use Rattle.event_core.proofs.laws.runs.runs_keep_logs_well_formed.Goals as goal

pub returns : goal.returns
returns c = run_keeps
