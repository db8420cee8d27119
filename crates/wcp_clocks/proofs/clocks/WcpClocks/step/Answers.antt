use Rattle.wcp_clocks.proofs.IsStepProperties.{due_by, done_by}
use Rattle.wcp_clocks.proofs.clocks.WcpClocks.step.Goals as goal

pub access-requires : goal.access-requires
access-requires c = due_by c.in-Load.is c.requires.ready c.requires.fits

pub access-requires-in-Store : goal.access-requires-in-Store
access-requires-in-Store c = due_by c.in-Store.is c.requires.ready c.requires.fits

pub fork-requires : goal.fork-requires
fork-requires c = due_by c.in-Fork.is c.requires.ready c.requires.fits

pub join-requires : goal.join-requires
join-requires c = due_by c.in-Join.is c.requires.ready c.requires.fits

pub returns-in-Load : goal.returns-in-Load
returns-in-Load c = done_by c.in-Load.is c.access.ensures

pub returns-in-Store : goal.returns-in-Store
returns-in-Store c = done_by c.in-Store.is c.access-in-Store.ensures

pub returns-in-Fork : goal.returns-in-Fork
returns-in-Fork c = done_by c.in-Fork.is c.fork.ensures

pub returns-in-Join : goal.returns-in-Join
returns-in-Join c = done_by c.in-Join.is c.join.ensures
