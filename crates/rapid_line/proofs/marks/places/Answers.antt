use Rattle.std.proofs.Common.{eqb, subst, sym, arith, w8, ℕ}
use Rattle.std.specs.Simd.Lanes.{chunk}
use Rattle.std.proofs.lemmas.Simd.{bitmask_splat, length-chunk}
use Rattle.rapid_line.specs.Marks.{Tell}
use Rattle.rapid_line.proofs.TellProperties.{compared}
use Rattle.rapid_line.proofs.marks.places.Goals as goal

pub returns : goal.returns
returns g c =
    let seen = g.row.SEEN in
    let text = c.args.text.now in
    let long = length-chunk 0 seen text (omega (arith, c.requires.long)) in
    subst (λ (n : ℕ). Tell seen text c.args.byte n)
    (sym (bitmask_splat w8 eqb (chunk 0 seen text) seen c.args.byte long c.requires.few))
    (compared seen text c.args.byte c.requires.long)
