use Rattle.event_core.proofs.laws.logs.sections_are_numbered.Goals as goal
use Rattle.event_core.proofs.SectionNumbers.{sections_are_numbered}

pub returns : goal.returns
returns c = sections_are_numbered
