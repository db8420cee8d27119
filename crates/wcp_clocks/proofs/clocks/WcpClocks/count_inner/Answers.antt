use Rattle.std.proofs.Common.{refl}
use Rattle.event_core.specs.Effect.{Inner}
use Rattle.wcp_clocks.proofs.OtherSteps.{plain_threads, clocks_step}
use Rattle.wcp_clocks.proofs.RowsKept.{room_same}
use Rattle.wcp_clocks.proofs.IsStepProperties.{kept_within, due_within, seen_step}
use Rattle.wcp_clocks.proofs.PartsWithin.{within}
use Rattle.wcp_clocks.specs.Parts.{parts_of}
use Rattle.wcp_clocks.specs.Stepping.{IsStepBy}
use Rattle.wcp_clocks.proofs.clocks.WcpClocks.count_inner.Goals as goal

-- the parts as the step leaves them
step : (c : goal.After-advance) → IsStepBy c.args.event.now Inner (within c.self.inside)
    (parts_of c.advance.new.self c.self.inside.rows c.self.inside.sums c.self.inside.queues
    c.self.inside.held c.advance.new.work)
step c =
    let old = within c.self.inside in
    let hb = c.advance.ensures in
    clocks_step old.work c.self.invariant.numbers hb.exact hb.width hb.kept hb.memory hb.work refl
    (room_same old.rows) refl Inner tt (due_within c.self.view_is c.requires).effect
    (plain_threads c.args.event.now Inner old refl) refl

pub invariant_of-self : goal.invariant_of-self
invariant_of-self c = kept_within (due_within c.self.view_is c.requires) (step c) c.self.invariant

pub returns : goal.returns
returns c = seen_step c.self.view_is (step c)
