use Rattle.std.proofs.Common.{ap, ◌∙◌}
use Rattle.traced_mem.specs.Meaning.{Meaning}
use Rattle.traced_mem.proofs.memory.Memory.depth.Goals as goal

pub returns-clause-depth : goal.returns-clause-depth
returns-clause-depth c log s = c.find_depth.ensures
    ∙ ap (λ (m : Meaning). (m.lock c.args.lock.0).depth) s.means
