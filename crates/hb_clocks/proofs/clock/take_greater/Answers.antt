use Rattle.std.proofs.Common.{◌∙◌, arith}
use Rattle.std.proofs.lemmas.List.{length-take-le}
use Rattle.hb_clocks.proofs.JoinProperties.{front_joined}
use Rattle.hb_clocks.proofs.clock.take_greater.Goals as goal

pub returns : goal.returns
returns c =
    front_joined c.loop-u.mine c.args.mine.now c.args.theirs.now c.requires.within
    (c.loop-u.auto.mine ∙ length-take-le _ _ c.requires.within)
    (λ k lt. c.loop-u.invariant.joined k (omega arith))
