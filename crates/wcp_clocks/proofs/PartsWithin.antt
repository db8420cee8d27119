-- The parts within the clocks, as contracts see them.
use Rattle.wcp_clocks.specs.declared.clocks.WcpClocks.TheInside.{Inside}
use Rattle.wcp_clocks.specs.Parts.{Parts, parts_of}

-- the parts within the clocks
abbrev pub within : Inside → Parts
within c = parts_of c.hb c.rows c.sums c.queues c.held c.work
