use Rattle.log_examples.proofs.RuleAExamples.{order_passes}
use Rattle.log_examples.proofs.examples.order_passes_through_sections.Goals as goal

pub returns : goal.returns
returns c = order_passes
