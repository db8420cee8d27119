use Rattle.event_core.proofs.OpenAcquiresProperties.{depths_are_open}
use Rattle.event_core.proofs.laws.logs.open_acquires_are_depths.Goals as goal

pub returns : goal.returns
returns c = λ m log w. depths_are_open m log w
