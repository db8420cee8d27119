use Rattle.std.proofs.Common.{ap, sym, subst, ◌∙◌}
use Rattle.traced_mem.specs.Meaning.{Meaning}
use Rattle.traced_mem.specs.Held.{AreHeld}
use Rattle.traced_mem.proofs.HeldLaw.{held_in_order}
use Rattle.traced_mem.proofs.memory.Memory.held.Goals as goal

pub returns-clause-held : goal.returns-clause-held
returns-clause-held c log s =
    subst (AreHeld log c.args.thread)
    (sym (c.find_held.ensures ∙ ap (λ (m : Meaning). (m.thread c.args.thread.0).held) s.means))
    (held_in_order c.args.self.now.limits log c.args.thread s.well_formed)
