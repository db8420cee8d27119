use Rattle.std.proofs.Common.{ℕ, ◌≤◌, List, length, sym, subst, ◌∙◌}
use Rattle.event_core.specs.Closed.{Closed}
use Rattle.clock_tests.proofs.queues.Sections.make_room.Goals as goal

pub invariant_of-self-clause-few : goal.invariant_of-self-clause-few
invariant_of-self-clause-few g c = λ l.
    subst (λ (f : ℕ → List Closed). length (f l) ≤ 1) (sym c.make_room.ensures.same.closed)
    (c.args.self.now.few l)

pub invariant_of-self-clause-found : goal.invariant_of-self-clause-found
invariant_of-self-clause-found g c = c.make_room.ensures.same.found ∙ c.args.self.now.found
