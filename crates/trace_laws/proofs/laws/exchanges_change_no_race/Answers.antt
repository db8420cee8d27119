use Rattle.trace_laws.proofs.IsReorderedProperties.{same_races_too}
use Rattle.trace_laws.proofs.laws.exchanges_change_no_race.Goals as goal

pub returns : goal.returns
returns c = same_races_too
