use Rattle.std.proofs.Common.{◌∷◌, ◌++◌, [], ap, ap₂, ◌∙◌}
use Rattle.lock_queues.specs.Sections.{Listed, entries_of}
use Rattle.lock_queues.proofs.EntriesProperties.{listed_push}
use Rattle.lock_queues.proofs.sections.ClosedSections.push.Goals as goal

pub returns-clause-entries : goal.returns-clause-entries
returns-clause-entries c =
    ap₂ entries_of c.push_reserved.ensures.items c.push_reserved-2.ensures.items
    ∙ listed_push c.self.inside.acquires.items c.self.inside.places.items c.args.entry.acquire
    c.args.entry.place c.self.invariant
    ∙ ap (λ (l : Listed). l.entries ++ c.args.entry ∷ []) c.self.view_is
