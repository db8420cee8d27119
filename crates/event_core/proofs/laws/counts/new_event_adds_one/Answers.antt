use Rattle.event_core.proofs.StrictNewProperties.{counts_new}
use Rattle.event_core.proofs.laws.counts.new_event_adds_one.Goals as goal

pub returns : goal.returns
returns g c = λ log e u n a all. counts_new log e u g.P.Set.has n a all
