use Rattle.section_sum.proofs.PairedSections.{sources_count}
use Rattle.section_sum.proofs.laws.sources_count.Goals as goal

pub returns : goal.returns
returns c = sources_count
