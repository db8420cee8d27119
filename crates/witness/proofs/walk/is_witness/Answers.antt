use Rattle.std.proofs.Common.{ℕ, List, sym, ◌∙◌, take, subst, arith}
use Rattle.std.proofs.Common.{take_all}
use Rattle.std.proofs.lemmas.List.{take_more}
use Rattle.std.proofs.lemmas.Option.{slice_get_within}
use Rattle.event_core.specs.Refusal.{WellFormed}
use Rattle.event_core.specs.declared.bounds.Limits.{Limits}
use Rattle.witness.specs.Indices.{events_at}
use Rattle.witness.specs.Witness.{IsNext, ReadsAlike}
use Rattle.witness.specs.Standing.{IsWalk}
use Rattle.witness.proofs.IsWalkProperties.{begun, next_after, each_place}
use Rattle.witness.proofs.walk.is_witness.Goals as goal

pub events-init : goal.events-init
events-init c = record {
  walk = begun c.args.log.now.events _ c.new-2.ensures.items c.in_ok-with_capacity.ensures.items
      c.in_ok-new.ensures.stands;
  limits = c.in_ok-new.ensures.limits;
  next = λ n k lt. absurd (omega arith);
  reads = λ n k lt. absurd (omega arith);
}

pub events-preserved : goal.events-preserved
events-preserved c =
    let log = c.args.log.now.events in
    let s = c.args.order.now in
    let i = c.events.index-index in
    let t = c.if-not-branch.false in
    let walk = c.events.invariant.walk in
    let next = c.in_ok-admit.ensures.next t (take i s) walk in
    let reads = c.in_ok-admit.ensures.reads t (take i s) walk in
    let more = c.in_ok-admit.ensures.walk t (take i s) walk in
    let test = c.events-test.true in
    record {
      walk =
          subst (λ (xs : List ℕ). IsWalk log xs c.admit.new.walk) (sym (take_more s i 0 (omega arith)))
          more;
      limits = c.admit.ensures.limits ∙ c.events.invariant.limits;
      next = each_place (λ n k. IsNext log (take n s) k) s i c.events.invariant.next next;
      reads =
          each_place (λ n k. ReadsAlike log (take n s) k) s i c.events.invariant.reads reads;
    }

pub returns : goal.returns
returns c = λ t.
    let log = c.args.log.now.events in
    let s = c.args.order.now in
    let i = c.events.index-index in
    let over = c.events-test.false in
    let whole = take_all i s (omega arith) in
    let walk = subst (λ (xs : List ℕ). IsWalk log xs c.events.walk) whole c.events.invariant.walk in
    let first = next_after c.deref.result.now c.deref.ensures.value walk
    (c.is_next.ensures.next c.if-not-is_next.false s) in
    let second = next_after c.deref-2.result.now c.deref-2.ensures.value walk
    (c.is_next-2.ensures.next t s) in
    record {
      program_order = λ n k at. c.events.invariant.next n k
          (let w = slice_get_within s n k at in omega arith) at;
      first = first.next;
      second = second.next;
      legal = subst (λ (m : Limits). WellFormed m (events_at log s)) c.events.invariant.limits
          walk.stands.well_formed;
      reads = λ n k at. c.events.invariant.reads n k
          (let w = slice_get_within s n k at in omega arith) at;
    }
