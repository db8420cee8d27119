use Rattle.std.proofs.Common.{◌≤◌, arith}
use Rattle.event_core.proofs.CountsProperties.{counts_at_most}
use Rattle.event_core.proofs.laws.counts.count_is_unique.Goals as goal

pub returns : goal.returns
returns g c =
    λ log u m n a b. (let le : m ≤ n = counts_at_most log u g.P.Set.has m n a b in
    let ge : n ≤ m = counts_at_most log u g.P.Set.has n m b a in omega arith)
