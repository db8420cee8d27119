use Rattle.trace_laws.proofs.RaceBetweenProperties.{ordered_log}
use Rattle.trace_laws.proofs.laws.well_formed_is_ordered.Goals as goal

pub returns : goal.returns
returns c = ordered_log
