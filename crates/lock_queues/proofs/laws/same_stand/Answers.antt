use Rattle.lock_queues.proofs.StandsForProperties.{same_stand}
use Rattle.lock_queues.proofs.laws.same_stand.Goals as goal

pub returns : goal.returns
returns c = same_stand
