use Rattle.std.proofs.Common.{◌≡◌, ℕ, List, [], length, IfOk, ap, subst, arith}
use Rattle.event_core.specs.Closed.{Closed}
use Rattle.lock_queues.specs.Queues.{closed_of, found_of}
use Rattle.clock_tests.proofs.queues.Sections.new.Goals as goal

pub invariant_of-result-clause-few : goal.invariant_of-result-clause-few
invariant_of-result-clause-few g c = λ l.
    let closed : closed_of c.expect.result ≡ (λ _. [])
    = subst (λ r. IfOk r (λ v. closed_of v ≡ (λ _. []))) c.expect.ensures c.new-3.ensures.closed in
    let none = ap (λ (f : ℕ → List Closed). length (f l)) closed in
    omega (arith, none)

pub invariant_of-result-clause-found : goal.invariant_of-result-clause-found
invariant_of-result-clause-found g c =
    subst (λ r. IfOk r (λ v. found_of v ≡ (λ _ _. 0))) c.expect.ensures c.new-3.ensures.found
