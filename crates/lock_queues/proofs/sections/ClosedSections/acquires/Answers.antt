use Rattle.std.proofs.Common.{ap, sym, ◌∙◌}
use Rattle.lock_queues.specs.Sections.{Listed, acquires_of}
use Rattle.lock_queues.proofs.EntriesProperties.{acquires_listed}
use Rattle.lock_queues.proofs.sections.ClosedSections.acquires.Goals as goal

pub returns : goal.returns
returns c =
    c.deref.ensures.value
    ∙ sym (acquires_listed c.self.inside.acquires.items c.self.inside.places.items c.self.invariant)
    ∙ ap (λ (l : Listed). acquires_of l.entries) c.self.view_is
