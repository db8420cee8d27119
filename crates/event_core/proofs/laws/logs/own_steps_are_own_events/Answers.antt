use Rattle.event_core.proofs.StepsProperties.{own_logs}
use Rattle.event_core.proofs.laws.logs.own_steps_are_own_events.Goals as goal

pub returns : goal.returns
returns c = own_logs
