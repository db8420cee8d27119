-- The slots that threads have on one lock. Each thread has one at most.
use Rattle.std.specs.Prelude.{ℕ, ◌≡◌, ◌<◌, List, nat_eq, Bool, Option, Some, None, IfSome, slice_index_or}
use Rattle.std.specs.Option.{is_some}
use Rattle.std.specs.List.{All, AllPairs, find, position_or_len}
use Rattle.hb_clocks.specs.Marks.{MarkedEvent}
use Rattle.lock_queues.specs.declared.slots.Slot.{Slot}

-- the slot is the thread's
abbrev pub is_of : ℕ → Slot → Bool
is_of t s = nat_eq t s.thread.0

-- the thread's slot, if it has one
abbrev pub slot_of : List Slot → ℕ → Option Slot
slot_of slots t = find (is_of t) slots

-- whether it has one
abbrev pub has_slot : List Slot → ℕ → Bool
has_slot slots t = is_some (slot_of slots t)

-- where it stands, or the number of slots
abbrev pub place_in : List Slot → ℕ → ℕ
place_in slots t = position_or_len (is_of t) slots

abbrev pub position_of : Option MarkedEvent → ℕ
position_of None = 0
position_of (Some m) = m.position

abbrev pub opened_at : Option Slot → ℕ
opened_at None = 0
opened_at (Some s) = position_of s.opened

-- the position of the acquire of the thread's open section, 0 where it has none
abbrev pub opened_in : List Slot → ℕ → ℕ
opened_in slots t = opened_at (slot_of slots t)

abbrev pub no_slot : Slot
no_slot = record { thread = record { 0 = 0 }; opened = None }

abbrev pub slot_at : List Slot → ℕ → Slot
slot_at slots k = slice_index_or slots k no_slot

-- the slot is of a thread below the number
pub record IsSlot (threads : ℕ) (s : Slot) : Type 0 where
  pub within : s.thread.0 < threads
  pub own : IfSome s.opened (λ m. m.thread ≡ s.thread.0)

-- each is such a slot, and no two are of the same thread
pub record AreSlots (threads : ℕ) (slots : List Slot) : Type 0 where
  pub each : All (IsSlot threads) slots
  pub others : AllPairs (λ (a b : Slot). a.thread.0 ≡ b.thread.0 → ⊥) slots
