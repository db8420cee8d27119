use Rattle.std.proofs.Common.{◌≡◌, subst}
use Rattle.event_core.specs.declared.ids.ThreadId.{ThreadId}
use Rattle.witness.specs.Walks.{HasAll, HasFork}
use Rattle.witness.proofs.next.may_join.Goals as goal

pub returns-then-has_all : goal.returns-then-has_all
returns-then-has_all c = λ t before count u op.
    let is : c.in-Join.child ≡ u = cc in
    let log = c.args.log.now.events in
    subst (λ (w : ThreadId). HasAll log before w × HasFork log before w) is
    (c.has_all.ensures c.if-has_all.true before count, c.has_fork.ensures t before count)
