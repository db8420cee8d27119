use Rattle.std.proofs.Common.{refl}
use Rattle.wcp_clocks.proofs.IsStepProperties.{due_outer, due_inner, outer_step, inner_step}
use Rattle.wcp_clocks.proofs.clocks.WcpClocks.acquire.Goals as goal

pub open-requires : goal.open-requires
open-requires c =
    due_outer c.args.event.now c.args.lock _ _ c.requires.op (λ d. refl) c.self.view_is c.depth.ensures
    c.if-depth-eq0.true c.requires.ready c.requires.fits

pub count_inner-requires : goal.count_inner-requires
count_inner-requires c =
    due_inner c.args.event.now c.args.lock _ _ c.requires.op (λ d. refl) c.self.view_is c.depth.ensures
    c.if-depth-eq0.false c.requires.ready c.requires.fits

pub returns-then-depth-eq0 : goal.returns-then-depth-eq0
returns-then-depth-eq0 c =
    outer_step c.args.event.now c.args.lock _ _ c.requires.op (λ d. refl) c.self.view_is c.depth.ensures
    c.if-depth-eq0.true c.open.ensures

pub returns-else-depth-eq0 : goal.returns-else-depth-eq0
returns-else-depth-eq0 c =
    inner_step c.args.event.now c.args.lock _ _ c.requires.op (λ d. refl) c.self.view_is c.depth.ensures
    c.if-depth-eq0.false c.count_inner.ensures
