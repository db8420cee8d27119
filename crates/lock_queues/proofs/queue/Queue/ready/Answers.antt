use Rattle.std.proofs.Common.{ap, sym, ◌∙◌, List}
use Rattle.lock_queues.specs.declared.slots.Slot.{Slot}
use Rattle.lock_queues.specs.Slots.{has_slot}
use Rattle.lock_queues.specs.Queue.{OneQueue}
use Rattle.lock_queues.proofs.SlotsProperties.{has_by_place}
use Rattle.lock_queues.proofs.queue.Queue.ready.Goals as goal

pub returns : goal.returns
returns c =
    has_by_place c.deref.result.now c.args.thread.0 c.find.result c.len.result c.find.ensures
    (c.len.ensures ∙ sym c.deref.ensures.len)
    ∙ ap (λ (xs : List Slot). has_slot xs c.args.thread.0) c.deref.ensures.value
    ∙ ap (λ (k : OneQueue). has_slot k.slots c.args.thread.0) c.self.view_is
