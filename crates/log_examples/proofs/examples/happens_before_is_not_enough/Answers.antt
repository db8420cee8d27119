use Rattle.log_examples.proofs.RuleAExamples.{happens_before_alone}
use Rattle.log_examples.proofs.examples.happens_before_is_not_enough.Goals as goal

pub returns : goal.returns
returns c = happens_before_alone
