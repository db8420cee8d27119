use Rattle.std.proofs.Common.{length, ap, ◌∙◌, arith}
use Rattle.std.proofs.lemmas.List.{with_items_is}
use Rattle.hb_clocks.proofs.IsUnusedFromProperties.{joined_unused}
use Rattle.hb_clocks.proofs.clock.Clock.raise.Goals as goal

pub invariant_of-self : goal.invariant_of-self
invariant_of-self c =
    let width = ap length c.self.view_is in
    let within = c.requires.within in
    let used = c.self.invariant.within in
    rw (with_items_is c.self.inside.counts c.take_greater.new.mine (c.take_greater.auto.mine
    ∙ c.deref_mut.ensures.len))
    (joined_unused c.take_greater.new.mine c.deref_mut.result.now c.self.inside.counts.items c.args.counts.now
    c.self.inside.used _ c.deref_mut.ensures.value c.take_greater.ensures c.take_greater.auto.mine
    c.self.invariant (omega arith) (omega arith) (omega arith))
