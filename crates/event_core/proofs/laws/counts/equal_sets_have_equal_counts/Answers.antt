use Rattle.event_core.proofs.CountsProperties.{counts_same}
use Rattle.event_core.proofs.laws.counts.equal_sets_have_equal_counts.Goals as goal

pub returns : goal.returns
returns g c = λ log u n same. (
  λ a. counts_same log u g.P.Set.has g.Q.Set.has n same a,
  λ a. counts_same log u g.Q.Set.has g.P.Set.has n (λ i o. ((same i o).1, (same i o).0)) a,
)
