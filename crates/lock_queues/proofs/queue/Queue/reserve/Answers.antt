use Rattle.std.proofs.Common.{rules, refl, arith}
use Rattle.lock_queues.proofs.IsKeptProperties.{kept_grown}
use Rattle.lock_queues.proofs.queue.Queue.reserve.Goals as goal

pub invariant_of-self : goal.invariant_of-self
invariant_of-self c =
    kept_grown _ _ c.self.invariant refl (λ i t. c.grow_to.ensures.same 0 (λ n given. search rules) t i)
    c.grow_to.ensures.more (omega arith)

pub invariant_of-self-2 : goal.invariant_of-self-2
invariant_of-self-2 c =
    kept_grown _ _ c.self.invariant c.prepare.ensures.same
    (λ i t. c.grow_to.ensures.same 0 (λ n given. search rules) t i) c.grow_to.ensures.more
    c.prepare.ensures.larger
