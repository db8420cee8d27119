use Rattle.trace_laws.proofs.SaysTheSameProperties.{says_the_same}
use Rattle.trace_laws.proofs.laws.private_accesses_change_nothing.Goals as goal

pub returns : goal.returns
returns c = λ m log vars w own. says_the_same m vars log w own
