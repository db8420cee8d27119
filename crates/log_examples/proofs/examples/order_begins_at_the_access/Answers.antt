use Rattle.log_examples.proofs.RuleAExamples.{order_begins}
use Rattle.log_examples.proofs.examples.order_begins_at_the_access.Goals as goal

pub returns : goal.returns
returns c = order_begins
