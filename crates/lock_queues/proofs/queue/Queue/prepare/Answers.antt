use Rattle.std.proofs.Common.{◌≡◌, Some, None, true, false, length, arith, ap, sym, subst, ◌∙◌}
use Rattle.std.proofs.Common.{List, [], ◌∷◌, ◌++◌}
use Rattle.std.specs.Prelude.{slice_index}
use Rattle.std.specs.Option.{is_some}
use Rattle.event_core.specs.Rows.{with_row}
use Rattle.lock_queues.specs.declared.slots.Slot.{Slot}
use Rattle.lock_queues.specs.Slots.{slot_of, has_slot, opened_at, opened_in, IsSlot}
use Rattle.lock_queues.specs.Queue.{OneQueue, IsKept}
use Rattle.lock_queues.proofs.IsKeptProperties.{kept_pushed}
use Rattle.lock_queues.proofs.SlotsProperties.{said, is_none, slot_push}
use Rattle.hb_clocks.proofs.WithRowProperties.{row_kept}
use Rattle.lock_queues.proofs.queue.Queue.prepare.Goals as goal

-- the slot is the last one
pushed : (c : goal.After-push_reserved) → c.push_reserved.new.self.items
    ≡ c.self.inside.slots.items ++ record { thread = c.args.thread; opened = None } ∷ []
pushed c =
    c.push_reserved.ensures.items
    ∙ ap (λ (xs : List Slot). xs ++ record { thread = c.args.thread; opened = None } ∷ [])
    c.in_ok-reserve-2.ensures.same

abbrev last : goal.After-push_reserved → Slot
last c = record { thread = c.args.thread; opened = None }

-- the slots were as they are, and none was the thread's
same : (c : goal.After-push_reserved) → c.self.inside.slots.items ≡ c.args.self.now.slots
same c = ap (λ (k : OneQueue). k.slots) c.self.view_is ∙ c.in_ok-reserve.ensures.slots

none : (c : goal.After-push_reserved) → has_slot c.self.inside.slots.items c.args.thread.0 ≡ false
none c = ap (λ (xs : List Slot). has_slot xs c.args.thread.0) (same c) ∙ c.requires.none

pub invariant_of-self-2 : goal.invariant_of-self-2
invariant_of-self-2 c =
    let found = c.self.inside.found.items in
    let s : Slot = record { thread = c.args.thread; opened = None } in
    let threads = ap (λ (k : OneQueue). length k.found) c.self.view_is in
    let within = c.in_ok-reserve.ensures.found in
    let slot : IsSlot (length found) s = record { within = omega arith; own = tt } in
    let entries = ap (λ (k : OneQueue). length k.entries) c.self.view_is in
    let slots = ap (λ (k : OneQueue). length k.slots) c.self.view_is in
    let most = ap (λ (k : OneQueue). k.most) c.self.view_is in
    let spare = c.in_ok-reserve.ensures.spare in
    subst (λ (xs : List Slot). IsKept c.self.inside.width c.self.inside.entries.entries xs found
    c.self.inside.entries.most)
    (sym (pushed c)) (kept_pushed s c.self.invariant (none c) slot (omega arith))

pub returns-clause-same : goal.returns-clause-same
returns-clause-same c =
    let slots = c.self.inside.slots.items in
    let t = c.args.thread.0 in
    record {
      width = ap (λ (k : OneQueue). k.width) c.self.view_is ∙ c.in_ok-reserve.ensures.same.width;
      entries = ap (λ (k : OneQueue). k.entries) c.self.view_is ∙ c.in_ok-reserve.ensures.same.entries;
      opened =
          ap opened_in (pushed c) ∙ said opened_at t (Some (last c)) (slot_of slots)
          (slot_push slots (last c) (none c))
          ∙ row_kept t 0 (opened_in slots) (ap opened_at (is_none (slot_of slots t) (none c)))
          ∙ ap opened_in (same c);
      found = ap (λ (k : OneQueue). slice_index k.found) c.self.view_is ∙ c.in_ok-reserve.ensures.same.found;
    }

pub returns-clause-ok : goal.returns-clause-ok
returns-clause-ok c =
    ap has_slot (pushed c) ∙ said is_some c.args.thread.0 (Some (last c))
    (slot_of c.self.inside.slots.items) (slot_push c.self.inside.slots.items (last c) (none c))
    ∙ ap (λ (xs : List Slot). with_row c.args.thread.0 true (has_slot xs)) (same c)
