use Rattle.log_examples.proofs.RuleBExamples.{within_one_thread}
use Rattle.log_examples.proofs.examples.rule_b_within_one_thread.Goals as goal

pub returns : goal.returns
returns c = within_one_thread
