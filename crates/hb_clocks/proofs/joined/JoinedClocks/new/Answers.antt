use Rattle.std.proofs.Common.{max}
use Rattle.std.proofs.lemmas.Simd.{length-zip2}
use Rattle.hb_clocks.proofs.JoinProperties.{joined_counts}
use Rattle.hb_clocks.proofs.joined.JoinedClocks.new.Goals as goal

pub returns-clause-width : goal.returns-clause-width
returns-clause-width c = length-zip2 max c.args.first.now c.args.second.now c.requires

pub returns-clause-counts : goal.returns-clause-counts
returns-clause-counts c = joined_counts c.args.first.now c.args.second.now c.requires
