use Rattle.std.proofs.Common.{◌<◌, length, arith}
use Rattle.event_core.proofs.CountsProperties.{counts_longer}
use Rattle.event_core.proofs.laws.counts.longer_log_keeps_counts.Goals as goal

pub returns : goal.returns
returns g c = λ log more u n a.
    counts_longer log more u g.P.Set.has (λ i. g.P.Set.has i × (i < length log)) n
    (λ i lt. (λ p. (p, lt), λ q. q.0)) (λ i le q. let lt : i < length log = q.1 in omega arith) a
