use Rattle.std.proofs.Common.{◌∙◌, ap, sym}
use Rattle.event_core.specs.Bounds.{Bounds}
use Rattle.wcp_clocks.specs.Parts.{Parts}
use Rattle.wcp_clocks.specs.HeldLists.{held_of}
use Rattle.wcp_clocks.proofs.GrownForProperties.{are_parts, empty_numbers}
use Rattle.wcp_clocks.proofs.StandsForProperties.{empty_stands}
use Rattle.wcp_clocks.proofs.clocks.WcpClocks.new.Goals as goal

abbrev parts : goal.After-new-5 → Parts
parts c = record {
  hb = c.in_ok-hb.hb;
  rows = c.in_ok-rows.rows;
  sums = c.in_ok-sums.sums;
  queues = c.in_ok-queues.queues;
  held = c.new-5.result;
  work = c.in_ok-hb.work;
}

pub returns-clause-empty : goal.returns-clause-empty
returns-clause-empty c =
    empty_numbers (parts c) c.in_ok-hb.ensures.empty c.in_ok-rows.ensures.strict c.in_ok-queues.ensures.opened
    (ap held_of c.new-5.ensures)
    c.in_ok-sums.ensures.nothing_noted c.in_ok-sums.ensures.no_others c.in_ok-queues.ensures.closed

pub invariant_of-result : goal.invariant_of-result
invariant_of-result c =
    are_parts (parts c) (returns-clause-empty c)
    (c.in_ok-rows.ensures.width ∙ c.threads.ensures.is ∙ sym c.in_ok-hb.ensures.width)
    (ap (λ (b : Bounds). b.threads) c.in_ok-queues.ensures.limits ∙ sym c.in_ok-hb.ensures.width)
    c.in_ok-sums.ensures.no_others c.in_ok-rows.ensures.no_thread c.in_ok-rows.ensures.no_lock

pub returns-clause-stands : goal.returns-clause-stands
returns-clause-stands c =
    empty_stands (parts c) (returns-clause-empty c) c.in_ok-hb.ensures.empty c.in_ok-queues.ensures.found
