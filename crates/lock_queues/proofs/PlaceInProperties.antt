-- The thread's slot, as a search finds it and a read gives it.
use Rattle.std.proofs.Common.{◌≡◌, ℕ, ◌<◌, ◌≤◌, true, List, length, get_or, Option, Some, None, sym, ap}
use Rattle.std.proofs.Common.{subst, ◌∙◌, rules, arith}
use Rattle.std.specs.Prelude.{IfSome, IsSome}
use Rattle.std.proofs.lemmas.Bool.{eq-eqb, ne_eqb}
use Rattle.std.proofs.lemmas.List.{get_or_read}
use Rattle.std.proofs.lemmas.List.Sums.{position_or_len_is}
use Rattle.hb_clocks.specs.Marks.{MarkedEvent}
use Rattle.lock_queues.specs.declared.slots.Slot.{Slot}
use Rattle.lock_queues.specs.Slots.{is_of, has_slot, place_in, position_of, opened_at, opened_in, no_slot}
use Rattle.lock_queues.specs.Slots.{slot_at, IsSlot, AreSlots}
use Rattle.lock_queues.specs.Queue.{OneQueue}
use Rattle.lock_queues.proofs.SlotsProperties.{Placed, has_placed, entered_has}

-- where a search for the thread stops
pub place_is : (slots : List Slot) (t i : ℕ) → i ≤ length slots
    → ((k : ℕ) → k < i → t ≡ (slot_at slots k).thread.0 → ⊥)
    → (i < length slots → t ≡ (slot_at slots i).thread.0)
    → i ≡ place_in slots t
place_is slots t i le before at =
    sym (position_or_len_is (is_of t) slots i no_slot le
    (λ k lt. ne_eqb t (slot_at slots k).thread.0 (before k lt))
    (λ lt. eq-eqb t (slot_at slots i).thread.0 (at lt)))

-- it found the slot, where the thread is known to have one
pub placed : {inside now : OneQueue} {seen : List Slot} {t i : ℕ} → inside ≡ now → seen ≡ inside.slots
    → i ≡ place_in seen t → has_slot now.slots t ≡ true → Placed inside.slots t i
placed {inside = inside} {t = t} is read at has =
    subst (Placed inside.slots t) (sym (at ∙ ap (λ (xs : List Slot). place_in xs t) read))
    (has_placed inside.slots t (ap (λ (q : OneQueue). has_slot q.slots t) is ∙ has))

-- or to be in its section
pub placed_entered : {inside now : OneQueue} {seen : List Slot} {t i : ℕ} → inside ≡ now → seen ≡ inside.slots
    → i ≡ place_in seen t → 0 < opened_in now.slots t → Placed inside.slots t i
placed_entered {now = now} {t = t} is read at entered = placed is read at (entered_has now.slots t entered)

-- the slot is the thread's
pub record IsOf (n : ℕ) (slots : List Slot) (t : ℕ) (x : Slot) : Type 0 where
  pub thread : t ≡ x.thread.0
  pub opened : opened_in slots t ≡ position_of x.opened
  pub within : t < n
  pub own : IfSome x.opened (λ m. m.thread ≡ x.thread.0)

-- as a read at its place gives it
pub slot_read : {n : ℕ} {slots : List Slot} {t i : ℕ} (x : Slot) → AreSlots n slots → Placed slots t i
    → x ≡ get_or slots i x → IsOf n slots t x
slot_read {n = n} {slots = slots} {t = t} {i = i} x are p read =
    let is : slot_at slots i ≡ x = sym (get_or_read slots i x p.within read no_slot) in
    let slot : IsSlot n x = subst (IsSlot n) is (are.each i no_slot p.within) in
    let thread : t ≡ x.thread.0 = p.thread ∙ ap (λ (r : Slot). r.thread.0) is in
    let within = slot.within in
    record {
      thread = thread;
      opened = ap opened_at p.is ∙ ap (λ (r : Slot). position_of r.opened) is;
      within = omega arith;
      own = slot.own;
    }

-- the mark of an entered slot
pub some_opened : (o : Option MarkedEvent) → 0 < position_of o → IsSome o
some_opened None h = absurd (omega arith)
some_opened (Some m) h = search rules

-- the open acquire in the thread's slot is the thread's
pub mark_of : {n : ℕ} {slots : List Slot} {t : ℕ} {x : Slot} (m : MarkedEvent) → IsOf n slots t x
    → x.opened ≡ Some m → m.thread ≡ t
mark_of {x = x} m slot e =
    subst (λ (o : Option MarkedEvent). IfSome o (λ m. m.thread ≡ x.thread.0)) e slot.own ∙ sym slot.thread
