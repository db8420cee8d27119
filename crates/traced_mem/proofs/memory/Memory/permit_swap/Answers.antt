use Rattle.std.proofs.Common.{ap, ◌∙◌}
use Rattle.traced_mem.specs.Meaning.{Meaning}
use Rattle.traced_mem.specs.Refusals.{answer, swap_refusal_at}
use Rattle.traced_mem.specs.Tables.{meaning}
use Rattle.traced_mem.proofs.RefusalsProperties.{same_swap_refusal}
use Rattle.traced_mem.proofs.Swaps.{load_allowed, store_allowed, on_ok}
use Rattle.traced_mem.proofs.memory.Memory.permit_swap.Goals as goal

pub returns-clause-load : goal.returns-clause-load
returns-clause-load c = on_ok _ _ c.decide_swap.ensures
    (load_allowed c.args.self.now.limits (meaning c.args.self.now) c.args.thread c.args.var)

pub returns-clause-store : goal.returns-clause-store
returns-clause-store c = on_ok _ _ c.decide_swap.ensures
    (store_allowed c.args.self.now.limits (meaning c.args.self.now) c.args.thread c.args.var)

pub returns-clause-refusal : goal.returns-clause-refusal
returns-clause-refusal c log s =
    c.decide_swap.ensures
    ∙ ap (λ (m : Meaning). answer (swap_refusal_at c.args.self.now.limits m c.args.thread c.args.var)) s.means
    ∙ ap answer (same_swap_refusal c.args.self.now.limits log c.args.thread c.args.var s.well_formed)
