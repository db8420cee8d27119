use Rattle.std.proofs.Common.{sym, ◌∙◌}
use Rattle.rapid_text.proofs.NumberedProperties.{found_name}
use Rattle.rapid_text.proofs.NumberCacheProperties.{right_put}
use Rattle.rapid_text.proofs.interner.Interner.search.Goals as goal

pub invariant_of-self : goal.invariant_of-self
invariant_of-self c =
    let at = found_name c.self.inside.names.keys c.args.name.now c.in_ok-i.i
    (sym c.get_index_of.ensures.index ∙ c.in_ok-i.was) in
    (c.self.invariant.0, right_put _ _ _ _ _ at c.self.invariant.1 c.put.ensures)
