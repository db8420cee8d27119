use Rattle.std.proofs.Common.{ap, ◌∙◌}
use Rattle.traced_mem.specs.Meaning.{Meaning}
use Rattle.traced_mem.proofs.memory.Memory.holder.Goals as goal

pub returns-clause-holds : goal.returns-clause-holds
returns-clause-holds c log s = c.find_holder.ensures
    ∙ ap (λ (m : Meaning). (m.lock c.args.lock.0).holder) s.means
