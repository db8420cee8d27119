use Rattle.log_examples.proofs.SectionExamples.{inner_release_inside}
use Rattle.log_examples.proofs.examples.inner_release_ends_no_section.Goals as goal

pub returns : goal.returns
returns c = inner_release_inside
