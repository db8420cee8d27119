use Rattle.event_core.proofs.RecurrenceProperties.{strict_least}
use Rattle.std.proofs.Common.{IsTrue}
use Rattle.event_core.proofs.laws.strict.strict_is_least_of_tests.Goals as goal

pub returns : goal.returns
returns c = λ log R i j closed s. strict_least (λ a b. IsTrue (R a b)) closed s
