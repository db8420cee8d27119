use Rattle.std.proofs.Common.{length}
use Rattle.rapid_text.specs.Feeding.{Takes}
use Rattle.rapid_text.proofs.feeding.feed_lines.Given as goal

abbrev pub invariant-lines : goal.invariant-lines
invariant-lines g l = Takes g.S.LineSink.takes l.fn.sink l.fn.cutter l.piece l.rest l.sink l.cutter

abbrev pub decreases-lines : goal.decreases-lines
decreases-lines g l = length l.rest
