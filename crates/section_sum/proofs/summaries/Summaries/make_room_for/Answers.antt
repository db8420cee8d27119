use Rattle.std.proofs.Common.{rules, ◌≡◌, ◌≤◌, false, length, length-set, get_or, set, sym, ap, subst, ◌∙◌}
use Rattle.std.proofs.Common.{arith, List}
use Rattle.std.proofs.lemmas.Bool.{false≢true, le-ltb}
use Rattle.std.proofs.lemmas.List.{take_all}
use Rattle.event_core.specs.declared.ids.LockId.{LockId}
use Rattle.section_sum.specs.LockSums.{no_kept}
use Rattle.section_sum.specs.Cells.{has_cell}
use Rattle.section_sum.specs.Sums.{Sums, is_held, is_ready, IsReady}
use Rattle.section_sum.proofs.ListProperties.{refused}
use Rattle.section_sum.proofs.IsKeptProperties.{no_lock}
use Rattle.section_sum.proofs.SourcesOfProperties.{sums}
use Rattle.section_sum.proofs.LocksProperties.{is_held_at}
use Rattle.section_sum.proofs.LockSumsProperties.{kept_read}
use Rattle.section_sum.proofs.MakeRoomLaws.{Grown, none_grown, more_locks, at_grown, next_grown, prepared}
use Rattle.section_sum.proofs.summaries.Summaries.make_room_for.Goals as goal

pub loop-lock-init : goal.loop-lock-init
loop-lock-init c = record {
  grown = subst (λ (s : Sums). Grown c.args.held.now c.args.var.0 0 s c.self.inside.cells
      c.self.inside.locks.items) c.self.view_is
      (none_grown c.args.held.now c.args.var.0 c.self.inside.cells c.self.inside.locks.items
      c.self.invariant.0);
  fitted = c.self.invariant.1;
}

pub prepare-requires : goal.prepare-requires
prepare-requires c =
    let l : LockId = get_or c.args.held.now c.loop-lock.lock-index (record { 0 = 0 }) in
    let g = more_locks c.loop-lock.invariant.grown c.grow_to.new.list.items l.0
    (is_held_at c.args.held.now c.loop-lock.lock-index _ c.loop-lock-test.true)
    (λ m. c.grow_to.ensures.same no_kept (λ lock given. search rules) m) c.grow_to.ensures.more
    c.grow_to.ensures.most in
    let there = c.in_ok-grow_to.ensures.ok in
    record {
      kept = kept_read _ _ c.grow_to.new.list.items c.index_mut-kept.result.now (omega arith) g.kept
          c.index_mut-kept.ensures.value;
    }

pub loop-lock-preserved : goal.loop-lock-preserved
loop-lock-preserved c =
    let l : LockId = get_or c.args.held.now c.loop-lock.lock-index (record { 0 = 0 }) in
    let ok = c.in_ok-grow_to.ensures.ok in
    let after = at_grown c.loop-lock.invariant.grown c.grow_to.new.list.items c.prepare.new.cells
    (record { 0 = 0 }) c.index_mut-kept.result.now c.prepare.new.self
    (λ m. c.grow_to.ensures.same no_kept (λ lock given. search rules) m) c.grow_to.ensures.more
    c.grow_to.ensures.most c.loop-lock-test.true (omega arith)
    c.index_mut-kept.ensures.value c.prepare.ensures.grown c.prepare.ensures.kept c.prepare.ensures.by
    c.prepare.ensures.again in
    record {
      grown = next_grown after (record { 0 = 0 }) c.loop-lock-test.true (sym c.in_ok-prepare.ensures.ready);
      fitted = omega (
        arith,
        c.loop-lock.invariant.fitted,
        c.grow_to.ensures.room,
        c.grow_to.ensures.more,
        c.in_ok-grow_to.ensures.ok,
        length-set c.grow_to.new.list.items l.0 c.prepare.new.self,
      );
    }

-- what is so of all locks where the memory for a cell is refused
refused_after : (c : goal.After-from_residual-in_err-prepare)
    → Grown c.args.held.now c.args.var.0 c.loop-lock.lock-index c.args.self.now c.prepare.new.cells
    (set c.grow_to.new.list.items (get_or c.args.held.now c.loop-lock.lock-index (record { 0 = 0 })).0
    c.prepare.new.self)
refused_after c =
    let ok = c.in_ok-grow_to.ensures.ok in
    at_grown c.loop-lock.invariant.grown c.grow_to.new.list.items c.prepare.new.cells
    (record { 0 = 0 }) c.index_mut-kept.result.now c.prepare.new.self
    (λ m. c.grow_to.ensures.same no_kept (λ lock given. search rules) m) c.grow_to.ensures.more
    c.grow_to.ensures.most c.loop-lock-test.true (omega arith)
    c.index_mut-kept.ensures.value c.prepare.ensures.grown c.prepare.ensures.kept c.prepare.ensures.by
    c.prepare.ensures.again

pub invariant_of-self-in_err-prepare : goal.invariant_of-self-in_err-prepare
invariant_of-self-in_err-prepare c =
    let l : LockId = get_or c.args.held.now c.loop-lock.lock-index (record { 0 = 0 }) in (
      (refused_after c).kept,
      omega (
        arith,
        c.loop-lock.invariant.fitted,
        c.grow_to.ensures.room,
        c.grow_to.ensures.more,
        c.in_ok-grow_to.ensures.ok,
        length-set c.grow_to.new.list.items l.0 c.prepare.new.self,
      ),
    )

pub returns-in_err-grow_to : goal.returns-in_err-grow_to
unfolding is_ready
returns-in_err-grow_to c =
    let l : LockId = get_or c.args.held.now c.loop-lock.lock-index (record { 0 = 0 }) in
    let on = is_held_at c.args.held.now c.loop-lock.lock-index _ c.loop-lock-test.true in
    let g = more_locks c.loop-lock.invariant.grown c.grow_to.new.list.items l.0 on
    (λ m. c.grow_to.ensures.same no_kept (λ lock given. search rules) m) c.grow_to.ensures.more
    c.grow_to.ensures.most in
    let past : length c.grow_to.new.list.items ≤ l.0
    = omega (arith, c.in_err-grow_to.ensures.lacks, ap length c.in_err-grow_to.ensures.refused) in
    let off : has_cell c.loop-lock.self-inside.cells l.0 c.args.var.0 ≡ false
    = le-ltb _ _ (no_lock c.loop-lock.self-inside.cells c.grow_to.new.list.items l.0 c.args.var.0 g.kept past)
    in
    let means = prepared g in
    let lacks : IsReady (sums c.loop-lock.self-inside.cells c.grow_to.new.list.items) c.args.held.now
    c.args.var.0 → ⊥
    = λ all. absurd (false≢true (sym off ∙ all l.0 on)) in
    record {
      ready = search rules;
      refused = refused c.from_residual.result _ lacks;
      again = λ was. absurd (lacks (λ m on. means.kept m c.args.var.0 (was m on)));
      kept = means.kept;
      grown = means.grown;
      locks = means.locks;
      noted = means.noted;
      others = means.others;
      stands = means.stands;
    }

pub returns-in_err-prepare : goal.returns-in_err-prepare
unfolding is_ready
returns-in_err-prepare c =
    let l : LockId = get_or c.args.held.now c.loop-lock.lock-index (record { 0 = 0 }) in
    let means = prepared (refused_after c) in
    let lacks : IsReady (sums c.prepare.new.cells (set c.grow_to.new.list.items l.0 c.prepare.new.self))
    c.args.held.now c.args.var.0 → ⊥
    = λ all. absurd (false≢true (c.in_err-prepare.ensures.ready ∙ all l.0
    (is_held_at c.args.held.now c.loop-lock.lock-index _ c.loop-lock-test.true))) in
    record {
      ready = search rules;
      refused = refused c.from_residual-in_err-prepare.result _ lacks;
      again = λ was. absurd (lacks (λ m on. means.kept m c.args.var.0 (was m on)));
      kept = means.kept;
      grown = means.grown;
      locks = means.locks;
      noted = means.noted;
      others = means.others;
      stands = means.stands;
    }

pub returns : goal.returns
unfolding is_ready
returns c =
    let means = prepared c.loop-lock.invariant.grown in
    record {
      ready = λ l on. c.loop-lock.invariant.grown.ready l
          (ap (λ (held : List LockId). is_held held l) (take_all c.loop-lock.lock-index c.args.held.now
          c.loop-lock-test.false) ∙ on);
      refused = search rules;
      again = λ was. (search rules, means.again was);
      kept = means.kept;
      grown = means.grown;
      locks = means.locks;
      noted = means.noted;
      others = means.others;
      stands = means.stands;
    }
