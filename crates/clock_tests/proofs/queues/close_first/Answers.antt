use Rattle.std.proofs.Common.{ℕ, ◌≤◌, List, length, sym, ap, subst, ◌∙◌, arith}
use Rattle.event_core.specs.Closed.{Closed}
use Rattle.lock_queues.specs.Queues.{closed_of, opened_of}
use Rattle.clock_tests.proofs.OneSection.{written, above_none, one_closed}
use Rattle.clock_tests.proofs.queues.close_first.Goals as goal

pub leave-requires-clause-entered : goal.leave-requires-clause-entered
leave-requires-clause-entered g c =
    let opened
    = written (opened_of c.enter.new.self) (opened_of c.args.queues.now) c.args.thread.0 c.args.lock.0
    c.args.mark.position c.enter.ensures.opened in
    omega (arith, opened, c.requires.marked)

pub leave-requires-clause-above : goal.leave-requires-clause-above
leave-requires-clause-above g c =
    above_none _ _ (ap (λ (f : ℕ → List Closed). length (f c.args.lock.0)) c.enter.ensures.closed
    ∙ c.expect_none.ensures)

pub returns-clause-few : goal.returns-clause-few
returns-clause-few g c =
    one_closed (closed_of c.leave.new.self) (closed_of c.enter.new.self) c.args.lock.0 _
    c.leave.ensures.closed
    (ap (λ (f : ℕ → List Closed). length (f c.args.lock.0)) c.enter.ensures.closed ∙ c.expect_none.ensures)
    (λ m. subst (λ (f : ℕ → List Closed). length (f m) ≤ 1) (sym c.enter.ensures.closed) (c.requires.few m))
