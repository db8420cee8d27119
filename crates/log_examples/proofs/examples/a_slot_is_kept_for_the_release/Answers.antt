use Rattle.log_examples.proofs.RunExamples.{slot_kept}
use Rattle.log_examples.proofs.examples.a_slot_is_kept_for_the_release.Goals as goal

pub returns : goal.returns
returns c = slot_kept
