use Rattle.rapid_text.specs.NumberCache.{AreRight}
use Rattle.rapid_text.proofs.interner.prepare.Given as goal

abbrev pub invariant-loop-number : goal.invariant-loop-number
invariant-loop-number l = AreRight l.names l.cache
