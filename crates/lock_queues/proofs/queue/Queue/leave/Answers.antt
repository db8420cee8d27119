use Rattle.std.proofs.Common.{ℕ, ◌++◌, ◌∷◌, [], ap, sym, subst, ◌∙◌, arith, List, false, None}
use Rattle.std.specs.List.{remove}
use Rattle.event_core.specs.Rows.{with_row}
use Rattle.hb_clocks.specs.Counts.{counts_of}
use Rattle.hb_clocks.specs.Releases.{IsAdded}
use Rattle.lock_queues.specs.declared.slots.Slot.{Slot}
use Rattle.lock_queues.specs.declared.sections.Entry.{Entry}
use Rattle.lock_queues.specs.Slots.{slot_of, has_slot, opened_at, opened_in, position_of}
use Rattle.lock_queues.specs.Queue.{OneQueue, IsKept}
use Rattle.std.specs.Option.{is_some}
use Rattle.lock_queues.proofs.SlotsProperties.{said, slot_remove}
use Rattle.lock_queues.proofs.PlaceInProperties.{placed_entered, slot_read, some_opened, mark_of}
use Rattle.lock_queues.proofs.IsKeptProperties.{kept_left}
use Rattle.lock_queues.proofs.queue.Queue.leave.Goals as goal

pub remove-slot-requires : goal.remove-slot-requires
remove-slot-requires c =
    let p = placed_entered c.self.view_is c.deref.ensures.value c.find-at.ensures c.requires.entered in
    let lt = p.within in
    let len = c.self.inside.slots.ok.0 in
    omega arith

pub unwrap-acquire-requires : goal.unwrap-acquire-requires
unwrap-acquire-requires c =
    let p = placed_entered c.self.view_is c.deref.ensures.value c.find-at.ensures c.requires.entered in
    let slot = slot_read c.remove-slot.result c.self.invariant.own p c.remove-slot.ensures.value in
    let same = ap (λ (k : OneQueue). opened_in k.slots c.args.thread.0) c.self.view_is in
    let entered = c.requires.entered in
    let opened = slot.opened in
    some_opened c.remove-slot.result.opened (omega arith)

pub push-place-requires-clause-room : goal.push-place-requires-clause-room
push-place-requires-clause-room c =
    let wide = c.requires.width in
    let memory = c.requires.memory in
    omega arith

pub invariant_of-self : goal.invariant_of-self
invariant_of-self c =
    let t : ℕ = c.args.thread.0 in
    let p = placed_entered c.self.view_is c.deref.ensures.value c.find-at.ensures c.requires.entered in
    let slot = slot_read c.remove-slot.result c.self.invariant.own p c.remove-slot.ensures.value in
    let thread = mark_of c.unwrap-acquire.result slot c.unwrap-acquire.ensures in
    let added = c.push-place.ensures.added in
    let own = added.marked in
    let count = added.count in
    let within = added.within in
    let width = ap (λ (k : OneQueue). k.width) c.self.view_is in
    let wide = c.requires.width in
    let more = c.push.ensures.most in
    let Keeps : List Entry → List Slot → Type 0
    = λ es rs. IsKept c.self.inside.width es rs c.self.inside.found.items c.push.new.self.most in
    let x : Entry = record { acquire = c.unwrap-acquire.result; place = c.push-place.result } in
    subst (Keeps c.push.new.self.entries) (sym c.remove-slot.ensures.items)
    (subst (λ es. Keeps es (remove c.self.inside.slots.items c.find-at.result)) (sym c.push.ensures.entries)
    (kept_left x _ c.self.invariant p (omega arith) (omega arith) (omega arith)))

pub returns-clause-joined : goal.returns-clause-joined
returns-clause-joined c =
    let t : ℕ = c.args.thread.0 in
    let p = placed_entered c.self.view_is c.deref.ensures.value c.find-at.ensures c.requires.entered in
    let slot = slot_read c.remove-slot.result c.self.invariant.own p c.remove-slot.ensures.value in
    let x : Entry = record { acquire = c.unwrap-acquire.result; place = c.push-place.result } in
    record {
      entry = x;
      entries = c.push.ensures.entries ∙ ap (λ (k : OneQueue). k.entries ++ x ∷ []) c.self.view_is;
      thread = mark_of c.unwrap-acquire.result slot c.unwrap-acquire.ensures;
      acquired = sym (slot.opened ∙ ap position_of c.unwrap-acquire.ensures)
          ∙ ap (λ (k : OneQueue). opened_in k.slots t) c.self.view_is;
      kept = subst (λ w. IsAdded c.args.releases.now.numbers c.push-place.new.self.numbers t
          c.push-place.result w (counts_of c.args.clock.now)) c.requires.width c.push-place.ensures.added;
    }

pub returns-clause-opened : goal.returns-clause-opened
returns-clause-opened c =
    let p = placed_entered c.self.view_is c.deref.ensures.value c.find-at.ensures c.requires.entered in
    ap opened_in c.remove-slot.ensures.items ∙ said opened_at c.args.thread.0 None
    (slot_of c.self.inside.slots.items)
    (slot_remove _ c.self.invariant.own p)
    ∙ ap (λ (k : OneQueue). with_row {A = ℕ} c.args.thread.0 0 (opened_in k.slots)) c.self.view_is

pub returns-clause-slots : goal.returns-clause-slots
returns-clause-slots c =
    let p = placed_entered c.self.view_is c.deref.ensures.value c.find-at.ensures c.requires.entered in
    ap has_slot c.remove-slot.ensures.items ∙ said is_some c.args.thread.0 None
    (slot_of c.self.inside.slots.items)
    (slot_remove _ c.self.invariant.own p)
    ∙ ap (λ (k : OneQueue). with_row c.args.thread.0 false (has_slot k.slots)) c.self.view_is
