use Rattle.std.proofs.Common.{refl}
use Rattle.wcp_clocks.proofs.IsStepProperties.{due_outer, due_inner, outer_step, inner_step}
use Rattle.wcp_clocks.proofs.clocks.WcpClocks.release.Goals as goal

pub close-requires : goal.close-requires
close-requires c =
    due_outer c.args.event.now c.args.lock _ _ c.requires.op (λ d. refl) c.self.view_is c.depth.ensures
    c.if-depth-eq1.true c.requires.ready c.requires.fits

pub count_inner-requires : goal.count_inner-requires
count_inner-requires c =
    due_inner c.args.event.now c.args.lock _ _ c.requires.op (λ d. refl) c.self.view_is c.depth.ensures
    c.if-depth-eq1.false c.requires.ready c.requires.fits

pub returns-then-depth-eq1 : goal.returns-then-depth-eq1
returns-then-depth-eq1 c =
    outer_step c.args.event.now c.args.lock _ _ c.requires.op (λ d. refl) c.self.view_is c.depth.ensures
    c.if-depth-eq1.true c.close.ensures

pub returns-else-depth-eq1 : goal.returns-else-depth-eq1
returns-else-depth-eq1 c =
    inner_step c.args.event.now c.args.lock _ _ c.requires.op (λ d. refl) c.self.view_is c.depth.ensures
    c.if-depth-eq1.false c.count_inner.ensures
