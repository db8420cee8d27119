use Rattle.std.proofs.Common.{sym, subst}
use Rattle.wcp_clocks.specs.Parts.{Parts, IsWithin}
use Rattle.wcp_clocks.proofs.GrownForProperties.{all_grown, grown_parts, seen_ready, seen_numbers, sums_same}
use Rattle.wcp_clocks.proofs.GrownForProperties.{queues_same, held_same}
use Rattle.wcp_clocks.proofs.AreOrderedProperties.{order_within}
use Rattle.wcp_clocks.proofs.PartsWithin.{within}
use Rattle.wcp_clocks.proofs.clocks.WcpClocks.grow.Goals as goal

pub prepare_clocks-requires : goal.prepare_clocks-requires
prepare_clocks-requires c =
    let t = c.args.thread in
    let op = c.args.op in
    order_within (within c.self.inside) t op
    (subst (λ (p : Parts). IsWithin p t op) (sym c.self.view_is) c.requires)

pub invariant_of-self : goal.invariant_of-self
invariant_of-self c =
    let clocks = c.prepare_clocks.ensures.grown in
    grown_parts (all_grown clocks (sums_same _) (queues_same _) (held_same _)) c.self.invariant

pub invariant_of-self-2 : goal.invariant_of-self-2
invariant_of-self-2 c =
    let more = c.prepare_places.ensures in
    grown_parts (all_grown c.prepare_clocks.ensures.grown more.sums more.queues more.held) c.self.invariant

pub returns-clause-same : goal.returns-clause-same
returns-clause-same c =
    let more = c.prepare_places.ensures in
    seen_numbers c.self.view_is (all_grown c.prepare_clocks.ensures.grown more.sums more.queues more.held)

pub returns-clause-kept : goal.returns-clause-kept
returns-clause-kept c =
    let more = c.prepare_places.ensures in
    seen_ready c.self.view_is (all_grown c.prepare_clocks.ensures.grown more.sums more.queues more.held)

pub returns-in_err-prepare_clocks-clause-kept : goal.returns-in_err-prepare_clocks-clause-kept
returns-in_err-prepare_clocks-clause-kept c =
    let clocks = c.prepare_clocks.ensures.grown in
    seen_ready c.self.view_is (all_grown clocks (sums_same _) (queues_same _) (held_same _))

pub returns-clause-grown : goal.returns-clause-grown
returns-clause-grown c =
    let more = c.prepare_places.ensures in
    rw (← c.self.view_is) (record {
      accesses = more.accesses;
      locks = more.locks;
      sections = more.sections;
      holds = more.holds;
    })
