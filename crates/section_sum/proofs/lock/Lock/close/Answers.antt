use Rattle.std.proofs.Common.{nat_eq, ap, ◌∙◌}
use Rattle.section_sum.specs.Cell.{cell_at, closed_as}
use Rattle.section_sum.proofs.CloseLaws.{next, next_within}
use Rattle.section_sum.proofs.lock.Lock.close.Goals as goal

pub close-requires : goal.close-requires
close-requires c = record {
  within = next_within _ _ _ _ _ _ _ c.in-Some.at c.in-Some.ensures.items c.closing.invariant.closing;
}

pub closing-preserved : goal.closing-preserved
closing-preserved c = record {
  closing = next _ _ _ _ _ _ _ _ c.in-Some.at c.in-Some.ensures.items c.close.ensures.places
      c.close.ensures.same
      (λ i. c.close.ensures.exact i
      ∙ ap (λ t. closed_as (nat_eq i c.in-Some.at) t c.args.number (cell_at c.closing.cells.cells i))
      c.closing.invariant.by)
      c.closing.invariant.closing;
  by = c.closing.invariant.by;
  count = c.closing.invariant.count;
  most = c.pop.ensures.capacity ∙ c.closing.invariant.most;
  sought = c.closing.invariant.sought;
}
