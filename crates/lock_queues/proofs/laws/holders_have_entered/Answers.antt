use Rattle.lock_queues.proofs.StandsForProperties.{holders_have_entered}
use Rattle.lock_queues.proofs.laws.holders_have_entered.Goals as goal

pub returns : goal.returns
returns c = holders_have_entered
