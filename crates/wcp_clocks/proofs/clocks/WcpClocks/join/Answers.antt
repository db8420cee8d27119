use Rattle.std.proofs.Common.{ap, arith}
use Rattle.event_core.specs.Effect.{Joins}
use Rattle.hb_clocks.specs.Work.{Done}
use Rattle.wcp_clocks.proofs.OtherSteps.{clocks_step}
use Rattle.wcp_clocks.proofs.IsStepProperties.{kept_within, due_within, seen_step}
use Rattle.wcp_clocks.proofs.PartsWithin.{within}
use Rattle.wcp_clocks.specs.Parts.{parts_of}
use Rattle.wcp_clocks.specs.Stepping.{IsStepBy}
use Rattle.wcp_clocks.proofs.clocks.WcpClocks.join.Goals as goal

pub advance-requires-clause-work : goal.advance-requires-clause-work
advance-requires-clause-work c =
    let w = ap (λ (d : Done). d.joins) c.take_thread.ensures.work in
    let few = (due_within c.self.view_is c.requires).fits.joins in omega arith

-- the parts as the step leaves them
step : (c : goal.After-advance) → IsStepBy c.args.event.now (Joins c.args.child) (within c.self.inside)
    (parts_of c.advance.new.self c.take_thread.new.self c.self.inside.sums c.self.inside.queues
    c.self.inside.held c.advance.new.work)
step c =
    let hb = c.advance.ensures in
    let taken = c.take_thread.ensures in
    let joins = ap (λ (d : Done). d.joins) taken.work in
    clocks_step c.take_thread.new.work c.self.invariant.numbers hb.exact hb.width hb.kept hb.memory hb.work
    taken.locks taken.kept (ap (λ (d : Done). d.comparisons) taken.work) (Joins c.args.child) tt
    (due_within c.self.view_is c.requires).effect taken.threads (omega arith)

pub invariant_of-self : goal.invariant_of-self
invariant_of-self c = kept_within (due_within c.self.view_is c.requires) (step c) c.self.invariant

pub returns : goal.returns
returns c = seen_step c.self.view_is (step c)
