use Rattle.rapid_line.proofs.SpellingProperties.{one_event}
use Rattle.rapid_line.proofs.lines.one_content.Goals as goal

pub returns : goal.returns
returns c = λ d e p q same. one_event d e p q same
