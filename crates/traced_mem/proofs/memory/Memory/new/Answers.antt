use Rattle.std.proofs.Common.{sym}
use Rattle.traced_mem.proofs.AfterProperties.{no_log, none_well_formed}
use Rattle.traced_mem.proofs.memory.Memory.new.Goals as goal

pub returns-clause-stands : goal.returns-clause-stands
returns-clause-stands c = record {
  well_formed = none_well_formed c.args.limits;
  means = rw (c.new.ensures.items, c.new-2.ensures.items, c.new-3.ensures.items) (sym no_log);
}
