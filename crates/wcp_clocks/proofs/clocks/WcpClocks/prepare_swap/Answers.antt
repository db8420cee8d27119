use Rattle.std.proofs.Common.{sym, subst}
use Rattle.wcp_clocks.specs.Growth.{GrownFor, MadeFor}
use Rattle.wcp_clocks.specs.Parts.{Parts}
use Rattle.wcp_clocks.proofs.Swaps.{swap_ready, swap_grown, swap_made}
use Rattle.wcp_clocks.proofs.clocks.WcpClocks.prepare_swap.Goals as goal

pub returns-in_err-prepare_for-clause-grown : goal.returns-in_err-prepare_for-clause-grown
returns-in_err-prepare_for-clause-grown c x load store thread =
    swap_grown c.args.load.now c.args.store.now x load store thread _ _ c.prepare_for.ensures.grown

pub returns-in_err-prepare_for-clause-made : goal.returns-in_err-prepare_for-clause-made
returns-in_err-prepare_for-clause-made c x load store thread =
    swap_made c.args.load.now c.args.store.now x load store thread _ _ c.prepare_for.ensures.made

pub returns-clause-grown : goal.returns-clause-grown
returns-clause-grown c x load store thread =
    let again = c.prepare_for-2.ensures.again
    (swap_ready c.args.load.now c.args.store.now x load store thread _ c.in_ok-prepare_for.ensures.ready) in
    subst (λ (p : Parts). GrownFor c.args.self.now p c.args.store.now.thread c.args.store.now.op)
    (sym again.1)
    (swap_grown c.args.load.now c.args.store.now x load store thread _ _ c.prepare_for.ensures.grown)

pub returns-clause-made : goal.returns-clause-made
returns-clause-made c x load store thread =
    let again = c.prepare_for-2.ensures.again
    (swap_ready c.args.load.now c.args.store.now x load store thread _ c.in_ok-prepare_for.ensures.ready) in
    subst (λ (p : Parts). MadeFor c.args.self.now p c.args.store.now.thread c.args.store.now.op)
    (sym again.1)
    (swap_made c.args.load.now c.args.store.now x load store thread _ _ c.prepare_for.ensures.made)
