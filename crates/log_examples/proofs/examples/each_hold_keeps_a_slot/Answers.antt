use Rattle.log_examples.proofs.RunExamples.{each_kept}
use Rattle.log_examples.proofs.examples.each_hold_keeps_a_slot.Goals as goal

pub returns : goal.returns
returns c = each_kept
