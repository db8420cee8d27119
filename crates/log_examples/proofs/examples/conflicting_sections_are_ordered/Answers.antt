use Rattle.log_examples.proofs.RuleAExamples.{conflicting_sections}
use Rattle.log_examples.proofs.examples.conflicting_sections_are_ordered.Goals as goal

pub returns : goal.returns
returns c = conflicting_sections
