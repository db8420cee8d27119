use Rattle.std.proofs.Common.{ap, ◌∙◌}
use Rattle.traced_mem.specs.Meaning.{Meaning}
use Rattle.traced_mem.specs.Refusals.{answer, refusal_at}
use Rattle.traced_mem.proofs.RefusalsProperties.{same_refusal}
use Rattle.traced_mem.proofs.memory.Memory.permit.Goals as goal

pub returns-clause-refusal : goal.returns-clause-refusal
returns-clause-refusal c log s =
    c.decide.ensures
    ∙ ap (λ (m : Meaning). answer
    (refusal_at c.args.self.now.limits m c.args.call.now.thread c.args.call.now.op)) s.means
    ∙ ap answer (same_refusal c.args.self.now.limits log c.args.call.now s.well_formed)
