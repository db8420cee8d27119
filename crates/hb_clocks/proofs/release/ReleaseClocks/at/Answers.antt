use Rattle.std.proofs.Common.{◌+◌, length, ap, arith}
use Rattle.hb_clocks.specs.Releases.{KeptNumbers, Place}
use Rattle.hb_clocks.proofs.release.ReleaseClocks.at.Goals as goal

pub overflow_add-end : goal.overflow_add-end
overflow_add-end c =
    let place = ap (λ (p : Place). p.start + p.width) c.place.view_is in
    let numbers = ap (λ (k : KeptNumbers). length k.numbers) c.self.view_is in
    let within = c.requires.readable.within in
    let few = c.self.inside.numbers.ok.0 in
    omega arith
