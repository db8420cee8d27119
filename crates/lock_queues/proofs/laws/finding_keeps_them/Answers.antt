use Rattle.lock_queues.proofs.LastBelowLaws.{finding_keeps_them}
use Rattle.lock_queues.proofs.laws.finding_keeps_them.Goals as goal

pub returns : goal.returns
returns c = finding_keeps_them
