use Rattle.std.proofs.Common.{ap, ◌∙◌}
use Rattle.lock_queues.specs.Slots.{has_slot}
use Rattle.lock_queues.specs.Queue.{OneQueue}
use Rattle.lock_queues.proofs.SearchedProperties.{entered_read}
use Rattle.lock_queues.proofs.queues.Queues.ready.Goals as goal

pub returns-then-at-len-clause-entered : goal.returns-then-at-len-clause-entered
returns-then-at-len-clause-entered c open_now =
    let t = c.args.thread.0 in
    let l = c.args.lock.0 in
    let read = entered_read t l c.self.view_is open_now c.index.ensures in
    c.ready.ensures ∙ ap (λ (q : OneQueue). has_slot q.slots t) read.is ∙ read.has
