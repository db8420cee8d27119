use Rattle.event_core.proofs.RunProperties.{act_run_keeps}
use Rattle.event_core.proofs.laws.runs.act_runs_keep_logs_well_formed.Goals as goal

pub returns : goal.returns
returns c = act_run_keeps
