use Rattle.event_core.proofs.OrderlyProperties.{orderly}
use Rattle.event_core.proofs.StrictIsWithinHb.{strict_hb}
use Rattle.trace_laws.proofs.laws.strict_is_within_hb.Goals as goal

pub returns : goal.returns
returns c = λ m log i j w s. strict_hb (orderly m log w) s
