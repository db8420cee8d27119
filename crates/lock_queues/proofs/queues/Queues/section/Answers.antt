use Rattle.std.proofs.Common.{◌-◌, ap, sym, subst, ◌∙◌}
use Rattle.event_core.specs.Closed.{Closed}
use Rattle.lock_queues.specs.Sections.{AreReadable}
use Rattle.lock_queues.specs.Queue.{OneQueue}
use Rattle.lock_queues.proofs.SearchedProperties.{queue_read, section_read}
use Rattle.lock_queues.proofs.queues.Queues.section.Goals as goal

pub section-requires-clause-readable : goal.section-requires-clause-readable
section-requires-clause-readable c =
    let read = queue_read _ _ c.self.view_is c.requires.some c.requires.within c.index.ensures in
    subst (λ (q : OneQueue). AreReadable c.self.inside.releases.numbers q.entries) (sym read)
    (c.self.invariant.readable c.args.lock.0)

pub returns-clause-by : goal.returns-clause-by
returns-clause-by c =
    let read = queue_read _ _ c.self.view_is c.requires.some c.requires.within c.index.ensures in
    c.section.ensures.thread
    ∙ ap (λ (q : Closed). q.thread) (section_read _ (c.args.number - 1) c.self.view_is read)

pub returns-clause-release : goal.returns-clause-release
returns-clause-release c =
    let read = queue_read _ _ c.self.view_is c.requires.some c.requires.within c.index.ensures in
    c.section.ensures.release
    ∙ ap (λ (q : Closed). q.release) (section_read _ (c.args.number - 1) c.self.view_is read)
