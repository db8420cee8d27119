use Rattle.wcp_clocks.proofs.holdings.Holding.remove.Goals as goal

pub returns-clause-room : goal.returns-clause-room
returns-clause-room c = rw (← c.self.view_is) c.take_out.ensures.room
