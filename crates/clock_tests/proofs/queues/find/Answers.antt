use Rattle.std.proofs.Common.{ℕ, ◌≤◌, List, length, sym, ap, subst, ◌∙◌, arith}
use Rattle.event_core.specs.Closed.{Closed}
use Rattle.lock_queues.specs.Queues.{opened_of}
use Rattle.clock_tests.proofs.OneSection.{written, earlier_one}
use Rattle.clock_tests.proofs.queues.find.Goals as goal

pub last_below-requires-clause-entered : goal.last_below-requires-clause-entered
last_below-requires-clause-entered g c =
    let opened
    = written (opened_of c.enter.new.self) (opened_of c.args.queues.now) c.args.thread.0 c.args.lock.0
    c.args.mark.position c.enter.ensures.opened in
    omega (arith, opened, c.requires.marked)

pub last_below-requires-clause-before : goal.last_below-requires-clause-before
last_below-requires-clause-before g c =
    let none = ap (λ (f : ℕ → ℕ → ℕ). f c.args.lock.0 c.args.thread.0)
    (c.enter.ensures.found ∙ c.requires.found) in
    omega (arith, none)

pub last_below-requires-clause-earlier : goal.last_below-requires-clause-earlier
last_below-requires-clause-earlier g c =
    earlier_one _ _ (subst (λ (f : ℕ → List Closed). length (f c.args.lock.0) ≤ 1)
    (sym c.enter.ensures.closed) c.requires.few)

pub last_below-requires-clause-few : goal.last_below-requires-clause-few
last_below-requires-clause-few g c =
    let one = subst (λ (f : ℕ → List Closed). length (f c.args.lock.0) ≤ 1)
    (sym c.enter.ensures.closed) c.requires.few in
    omega (arith, one, c.requires.work)
