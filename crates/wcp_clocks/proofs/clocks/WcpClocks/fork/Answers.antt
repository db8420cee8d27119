use Rattle.std.proofs.Common.{ℕ, ap₂, sym, ◌∙◌, refl}
use Rattle.event_core.specs.Rows.{with_row}
use Rattle.event_core.specs.Effect.{Effect, Forks}
use Rattle.wcp_clocks.proofs.OtherSteps.{plain_strict, plain_threads, clocks_step}
use Rattle.wcp_clocks.proofs.IsStepProperties.{kept_within, due_within, seen_step}
use Rattle.wcp_clocks.proofs.PartsWithin.{within}
use Rattle.wcp_clocks.specs.Parts.{parts_of}
use Rattle.wcp_clocks.specs.Stepping.{IsStepBy}
use Rattle.wcp_clocks.proofs.clocks.WcpClocks.fork.Goals as goal

-- the parts as the step leaves them
step : (c : goal.After-give_thread) → IsStepBy c.args.event.now (Forks c.args.child) (within c.self.inside)
    (parts_of c.advance.new.self c.give_thread.new.self c.self.inside.sums c.self.inside.queues
    c.self.inside.held c.advance.new.work)
step c =
    let e = c.args.event.now in
    let k : Effect = Forks c.args.child in
    let old = within c.self.inside in
    let hb = c.advance.ensures in
    let give = c.give_thread.ensures in
    clocks_step old.work c.self.invariant.numbers hb.exact hb.width hb.kept hb.memory hb.work give.locks
    give.kept refl k tt (due_within c.self.view_is c.requires).effect
    (give.threads ∙ ap₂ (λ (g : ℕ → ℕ) (f : ℕ → ℕ → ℕ). with_row c.args.child.0 g f)
    (sym (plain_strict e k old refl)) (plain_threads e k old refl)) refl

pub invariant_of-self : goal.invariant_of-self
invariant_of-self c = kept_within (due_within c.self.view_is c.requires) (step c) c.self.invariant

pub returns : goal.returns
returns c = seen_step c.self.view_is (step c)
