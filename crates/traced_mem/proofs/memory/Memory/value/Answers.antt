use Rattle.std.proofs.Common.{ap, ◌∙◌}
use Rattle.traced_mem.specs.Meaning.{Meaning}
use Rattle.traced_mem.proofs.memory.Memory.value.Goals as goal

pub returns-clause-last : goal.returns-clause-last
returns-clause-last c log s = c.find_value.ensures ∙ ap (λ (m : Meaning). m.cell c.args.var.0) s.means
