use Rattle.wcp_clocks.proofs.AreOrderedProperties.{ready_of}
use Rattle.wcp_clocks.proofs.PartsWithin.{within}
use Rattle.wcp_clocks.proofs.clocks.WcpClocks.ready_for.Goals as goal

pub returns-then-ready-clause-ready : goal.returns-then-ready-clause-ready
returns-then-ready-clause-ready c =
    let rows = c.ready.ensures.0 c.if-ready.true in
    rw (← c.self.view_is) (
      λ yes. ready_of (within c.self.inside) c.args.thread c.args.op c.self.invariant.ordered rows
          (c.places_ready.ensures.0 yes),
      λ ready. c.places_ready.ensures.1 ready.places,
    )
