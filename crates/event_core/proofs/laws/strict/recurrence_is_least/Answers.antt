use Rattle.event_core.proofs.RecurrenceProperties.{pre_strict, strict_pre}
use Rattle.event_core.proofs.OrderlyProperties.{orderly}
use Rattle.event_core.proofs.laws.strict.recurrence_is_least.Goals as goal

pub returns : goal.returns
returns c = λ m log i j w. (λ p. pre_strict (orderly m log w) p, λ s. strict_pre (orderly m log w) s)
