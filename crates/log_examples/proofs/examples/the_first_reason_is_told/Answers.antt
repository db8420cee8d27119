use Rattle.log_examples.proofs.RunExamples.{first_told}
use Rattle.log_examples.proofs.examples.the_first_reason_is_told.Goals as goal

pub returns : goal.returns
returns c = first_told
