use Rattle.std.proofs.Common.{◌<◌, arith}
use Rattle.rapid_line.proofs.TellProperties.{others_kept, others_later, one_fewer}
use Rattle.rapid_line.proofs.marks.without_lowest.Goals as goal

pub returns : goal.returns
returns c =
    let bits = c.args.bits in
    let some : 0 < bits = omega (arith, c.requires) in
    let few = c.ranges.bits.fits in
    record {
      later = others_later bits some few;
      kept = others_kept bits some few;
      fewer = one_fewer 64 bits some few;
    }
