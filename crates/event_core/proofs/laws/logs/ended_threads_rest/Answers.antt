use Rattle.event_core.proofs.EndedLaw.{ended_rest}
use Rattle.event_core.proofs.laws.logs.ended_threads_rest.Goals as goal

pub returns : goal.returns
returns c = ended_rest
