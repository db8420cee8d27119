use Rattle.event_core.proofs.OpenAcquiresProperties.{balanced}
use Rattle.event_core.proofs.laws.logs.slots_are_kept.Goals as goal

pub returns : goal.returns
returns c = λ m log w. (balanced m log w).room
