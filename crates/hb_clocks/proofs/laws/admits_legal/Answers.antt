use Rattle.hb_clocks.proofs.StandsForProperties.{admits_legal}
use Rattle.hb_clocks.proofs.laws.admits_legal.Goals as goal

pub returns : goal.returns
returns c = admits_legal
