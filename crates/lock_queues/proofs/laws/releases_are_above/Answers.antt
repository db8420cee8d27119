use Rattle.lock_queues.proofs.LastBelowLaws.{releases_are_above}
use Rattle.lock_queues.proofs.laws.releases_are_above.Goals as goal

pub returns : goal.returns
returns c = releases_are_above
