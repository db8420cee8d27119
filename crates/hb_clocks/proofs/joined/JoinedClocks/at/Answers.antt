use Rattle.std.proofs.Common.{length, max, ap, arith}
use Rattle.std.proofs.lemmas.Simd.{length-zip2}
use Rattle.hb_clocks.proofs.joined.JoinedClocks.at.Goals as goal

pub at-requires : goal.at-requires
at-requires c =
    let width = ap length c.self.view_is in
    let both = length-zip2 max c.self.inside.first.now c.self.inside.second.now c.self.invariant in
    let within = c.requires in
    omega arith

pub at-requires-2 : goal.at-requires-2
at-requires-2 c =
    let width = ap length c.self.view_is in
    let both = length-zip2 max c.self.inside.first.now c.self.inside.second.now c.self.invariant in
    let same = c.self.invariant in
    let within = c.requires in
    omega arith
