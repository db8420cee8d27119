use Rattle.event_core.specs.Effect.{Accesses}
use Rattle.wcp_clocks.specs.Parts.{Parts, parts_of}
use Rattle.wcp_clocks.specs.Stepping.{IsStepBy}
use Rattle.wcp_clocks.proofs.AccessSteps.{access_step}
use Rattle.wcp_clocks.proofs.IsStepProperties.{kept_within, due_within, seen_step}
use Rattle.wcp_clocks.proofs.PartsWithin.{within}
use Rattle.wcp_clocks.proofs.clocks.WcpClocks.access.Goals as goal

-- the parts as the step leaves them
abbrev left : goal.After-advance → Parts
left c =
    parts_of c.advance.new.self c.take_sources.new.rows c.note.new.self c.self.inside.queues
    c.self.inside.held c.advance.new.work

step : (c : goal.After-advance)
    → IsStepBy c.args.event.now (Accesses c.args.var c.args.kind) (within c.self.inside) (left c)
step c =
    let due = due_within c.self.view_is c.requires in
    let s = c.take_sources in
    access_step c.args.event.now c.args.var c.args.kind (within c.self.inside) due.effect due.fits
    c.of-held.result.now s.new.rows c.advance.new.self c.note.new.self s.new.work c.advance.new.work
    c.of-held.ensures s.ensures.threads s.ensures.locks s.ensures.kept s.ensures.joins s.ensures.joins_exact
    s.ensures.comparisons c.note.ensures.noted c.note.ensures.others c.self.invariant.numbers
    c.advance.ensures.exact c.advance.ensures.width c.advance.ensures.kept c.advance.ensures.work
    c.note.ensures.kept c.advance.ensures.memory c.note.ensures.memory

pub invariant_of-self : goal.invariant_of-self
invariant_of-self c = kept_within (due_within c.self.view_is c.requires) (step c) c.self.invariant

pub returns : goal.returns
returns c = seen_step c.self.view_is (step c)
