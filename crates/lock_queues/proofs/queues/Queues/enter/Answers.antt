use Rattle.std.proofs.Common.{ap, refl, ◌∙◌, arith}
use Rattle.std.specs.Prelude.{slice_index}
use Rattle.lock_queues.specs.Sections.{sections_of}
use Rattle.event_core.specs.Rows.{with_row}
use Rattle.lock_queues.specs.Slots.{has_slot, opened_in}
use Rattle.lock_queues.specs.Queue.{OneQueue}
use Rattle.lock_queues.proofs.StandsForProperties.{enter_stands}
use Rattle.lock_queues.proofs.QueueAtProperties.{Read, lifted_same, lifted_cell}
use Rattle.lock_queues.proofs.SearchedProperties.{ready_read}
use Rattle.lock_queues.proofs.AreKeptProperties.{kept_set}
use Rattle.lock_queues.proofs.SameMeaningProperties.{places_set}
use Rattle.lock_queues.proofs.queues.Queues.enter.Goals as goal

-- the queue that is entered
queue : (c : goal.After-self-1)
    → Read c.self.inside.queues.items c.args.thread.0 c.args.lock.0 c.index_mut-queue.result.now
queue c =
    ready_read c.args.thread.0 c.args.lock.0 c.self.view_is c.requires.ready c.index_mut-queue.ensures.value

pub invariant_of-self : goal.invariant_of-self
invariant_of-self c =
    let many = c.enter.ensures.many in
    kept_set c.args.lock.0 c.enter.new.self c.self.inside.slots c.self.invariant (queue c).within
    c.index_mut-queue.ensures.value c.enter.ensures.width c.enter.ensures.entries (omega arith)
    c.self.invariant.spare

pub returns-clause-closed : goal.returns-clause-closed
returns-clause-closed c =
    let f = λ (q : OneQueue). sections_of c.self.inside.releases.numbers q.entries in
    rw (← c.self.view_is) (lifted_same f _ _ c.enter.new.self (queue c).within
    (ap (sections_of c.self.inside.releases.numbers) c.enter.ensures.entries ∙ ap f (queue c).is))

pub returns-clause-found : goal.returns-clause-found
returns-clause-found c =
    let f = λ (q : OneQueue). slice_index q.found in
    rw (← c.self.view_is) (lifted_same f _ _ c.enter.new.self (queue c).within
    (ap slice_index c.enter.ensures.found ∙ ap f (queue c).is))

pub returns-clause-opened : goal.returns-clause-opened
returns-clause-opened c =
    let row = λ (q : OneQueue). with_row c.args.thread.0 c.args.mark.position (opened_in q.slots) in
    rw (← c.self.view_is) (lifted_cell (λ (q : OneQueue). opened_in q.slots) _ _ _ c.enter.new.self _
    (queue c).within (c.enter.ensures.opened ∙ ap row (queue c).is))

pub returns-clause-ready : goal.returns-clause-ready
returns-clause-ready c =
    let f = λ (q : OneQueue). has_slot q.slots in
    let same = lifted_same f _ _ c.enter.new.self (queue c).within
    (c.enter.ensures.slots ∙ ap f (queue c).is) in
    rw (← c.self.view_is) (λ i u m. same i m u)

pub returns-clause-stands : goal.returns-clause-stands
returns-clause-stands c = λ limits log e.
    enter_stands limits log e c.args.self.now c.args.thread c.args.lock c.args.mark
    (returns-clause-closed c) (returns-clause-opened c) (returns-clause-found c)

pub returns-clause-memory : goal.returns-clause-memory
returns-clause-memory c =
    let same = c.enter.ensures.reserved ∙ ap (λ (q : OneQueue). q.reserved) (queue c).is in
    rw (← c.self.view_is) (record {
      places = places_set c.self.inside.limits c.self.inside.queues.items c.args.lock.0 c.enter.new.self
          (queue c).within same;
      numbers = refl;
    })
