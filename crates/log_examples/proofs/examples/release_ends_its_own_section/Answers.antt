use Rattle.log_examples.proofs.SectionExamples.{own_section_ends}
use Rattle.log_examples.proofs.examples.release_ends_its_own_section.Goals as goal

pub returns : goal.returns
returns c = own_section_ends
