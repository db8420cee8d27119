use Rattle.std.proofs.Common.{refl}
use Rattle.wcp_clocks.proofs.StandsForProperties.{step_stands}
use Rattle.wcp_clocks.proofs.Memory.{closing_releases, keeps_weaker}
use Rattle.wcp_clocks.proofs.IsStepProperties.{exact, access_kept}
use Rattle.wcp_clocks.proofs.clocks.WcpClocks.advance.Goals as goal

pub returns-clause-exact : goal.returns-clause-exact
returns-clause-exact c = exact c.step.ensures

pub returns-clause-stands : goal.returns-clause-stands
returns-clause-stands c limits log w st =
    step_stands limits log c.args.event.now c.args.self.now c.step.new.self w c.step.ensures.hb
    (exact c.step.ensures) c.step.ensures.found st

pub returns-clause-kept : goal.returns-clause-kept
returns-clause-kept c = access_kept c.step.ensures c.args.event.now.op refl

pub returns-clause-memory : goal.returns-clause-memory
returns-clause-memory c = keeps_weaker (closing_releases _ c.args.event.now.op) c.step.ensures.memory
