use Rattle.trace_laws.proofs.RaceBetweenProperties.{same_pairs}
use Rattle.trace_laws.proofs.laws.repeated_accesses_change_no_pair.Goals as goal

pub returns : goal.returns
returns c = same_pairs
