use Rattle.lock_queues.proofs.StandsForProperties.{others_leave_them}
use Rattle.lock_queues.proofs.laws.others_leave_them.Goals as goal

pub returns : goal.returns
returns c = others_leave_them
