use Rattle.std.proofs.Common.{◌≡◌, true, get_or, sym, ap, subst, ◌∙◌}
use Rattle.std.proofs.lemmas.Bool.{false≢true}
use Rattle.event_core.specs.declared.ids.LockId.{LockId}
use Rattle.section_sum.specs.LockSums.{AreKept}
use Rattle.section_sum.specs.Sums.{Sums, is_ready}
use Rattle.section_sum.proofs.LocksProperties.{held_each, is_held_at}
use Rattle.section_sum.proofs.summaries.Summaries.ready.Goals as goal

pub ready_under-requires : goal.ready_under-requires
ready_under-requires c = record {
  kept = subst (AreKept c.self.inside.cells) (sym c.deref.ensures.value) c.self.invariant.0;
}

pub returns-then-not-ready_under : goal.returns-then-not-ready_under
unfolding is_ready
returns-then-not-ready_under c =
    let l : LockId = get_or c.args.held.now c.loop-lock.lock-index (record { 0 = 0 }) in (
      λ f. absurd (false≢true f),
      λ all. sym c.if-not-ready_under.true ∙ c.ready_under.ensures
          ∙ ap (λ (s : Sums). is_ready s l.0 c.args.var.0) c.self.view_is
          ∙ all l.0 (is_held_at c.args.held.now c.loop-lock.lock-index _ c.loop-lock-test.true),
    )

pub loop-lock-preserved : goal.loop-lock-preserved
unfolding is_ready
loop-lock-preserved c =
    let l : LockId = get_or c.args.held.now c.loop-lock.lock-index (record { 0 = 0 }) in
    held_each (λ m. is_ready c.args.self.now m c.args.var.0 ≡ true)
    c.args.held.now c.loop-lock.lock-index (record { 0 = 0 }) c.loop-lock-test.true c.loop-lock.invariant
    (sym (c.ready_under.ensures ∙ ap (λ (s : Sums). is_ready s l.0 c.args.var.0) c.self.view_is)
    ∙ c.if-not-ready_under.false)
