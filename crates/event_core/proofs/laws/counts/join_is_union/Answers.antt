use Rattle.event_core.proofs.CountsProperties.{counts_union}
use Rattle.event_core.proofs.laws.counts.join_is_union.Goals as goal

pub returns : goal.returns
returns g c = λ log u m n a b. counts_union log u g.P.Set.has g.Q.Set.has m n a b
