use Rattle.log_examples.proofs.RuleBExamples.{releases_ordered}
use Rattle.log_examples.proofs.examples.rule_b_orders_releases.Goals as goal

pub returns : goal.returns
returns c = releases_ordered
