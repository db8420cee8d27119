use Rattle.std.proofs.Common.{◌≡◌, Option, Some, true, ap, sym, subst, ◌∙◌, arith}
use Rattle.std.specs.Prelude.{IfSome}
use Rattle.std.specs.Option.{is_some}
use Rattle.event_core.specs.declared.ids.ThreadId.{ThreadId}
use Rattle.event_core.specs.Rows.{with_row}
use Rattle.hb_clocks.specs.Marks.{MarkedEvent}
use Rattle.lock_queues.specs.Slots.{slot_of, has_slot, position_of, opened_at, opened_in}
use Rattle.lock_queues.specs.Queue.{OneQueue}
use Rattle.lock_queues.proofs.SlotsProperties.{Placed, said, slot_set}
use Rattle.hb_clocks.proofs.WithRowProperties.{row_kept}
use Rattle.lock_queues.proofs.PlaceInProperties.{placed, slot_read}
use Rattle.lock_queues.proofs.IsKeptProperties.{kept_entered}
use Rattle.lock_queues.proofs.queue.Queue.enter.Goals as goal

pub index_mut-slot-requires : goal.index_mut-slot-requires
index_mut-slot-requires c =
    let lt = (placed c.self.view_is c.deref.ensures.value c.find-at.ensures c.requires.slot).within in
    let len = c.self.inside.slots.ok.0 in
    omega arith

-- where the thread's slot stands
place : (c : goal.After-self-1) → Placed c.self.inside.slots.items c.args.thread.0 c.find-at.result
place c = placed c.self.view_is c.deref.ensures.value c.find-at.ensures c.requires.slot

-- and whose it is afterwards
own : (c : goal.After-self-1) → c.args.thread.0 ≡ c.enter.new.self.thread.0
own c =
    (slot_read c.index_mut-slot.result.now c.self.invariant.own
    (place c) c.index_mut-slot.ensures.value).thread
    ∙ ap (λ (t : ThreadId). t.0) (sym c.enter.ensures.thread)

pub invariant_of-self : goal.invariant_of-self
invariant_of-self c =
    kept_entered _ c.self.invariant (place c) (own c)
    (subst (λ (o : Option MarkedEvent). IfSome o (λ m. m.thread ≡ c.enter.new.self.thread.0))
    (sym c.enter.ensures.opened) (c.requires.own ∙ own c))

pub returns-clause-opened : goal.returns-clause-opened
returns-clause-opened c =
    said opened_at c.args.thread.0 (Some c.enter.new.self) (slot_of c.self.inside.slots.items)
    (slot_set _ (place c) (own c))
    ∙ ap (λ (o : Option MarkedEvent). with_row c.args.thread.0 (position_of o)
    (opened_in c.self.inside.slots.items))
    c.enter.ensures.opened
    ∙ ap (λ (k : OneQueue). with_row c.args.thread.0 c.args.mark.position (opened_in k.slots)) c.self.view_is

pub returns-clause-slots : goal.returns-clause-slots
returns-clause-slots c =
    said is_some c.args.thread.0 (Some c.enter.new.self) (slot_of c.self.inside.slots.items)
    (slot_set _ (place c) (own c))
    ∙ row_kept c.args.thread.0 true (has_slot c.self.inside.slots.items) (ap is_some (place c).is)
    ∙ ap (λ (k : OneQueue). has_slot k.slots) c.self.view_is
