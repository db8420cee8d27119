use Rattle.lock_queues.proofs.LastBelowLaws.{strict_clocks_may_ask}
use Rattle.lock_queues.proofs.laws.strict_clocks_may_ask.Goals as goal

pub returns : goal.returns
returns c = strict_clocks_may_ask
