use Rattle.event_core.proofs.RecurrenceProperties.{strict_least}
use Rattle.event_core.proofs.laws.strict.strict_is_least.Goals as goal

pub returns : goal.returns
returns g c = λ log i j closed s. strict_least g.R.Pairs.related closed s
