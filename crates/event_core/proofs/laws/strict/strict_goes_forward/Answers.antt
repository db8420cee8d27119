use Rattle.event_core.proofs.RecurrenceProperties.{strict_forward}
use Rattle.event_core.proofs.laws.strict.strict_goes_forward.Goals as goal

pub returns : goal.returns
returns c = λ log i j h. strict_forward h
