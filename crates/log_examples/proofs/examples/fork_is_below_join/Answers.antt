use Rattle.log_examples.proofs.SectionExamples.{fork_before_join}
use Rattle.log_examples.proofs.examples.fork_is_below_join.Goals as goal

pub returns : goal.returns
returns c = fork_before_join
