-- What is kept of one lock.
use Rattle.std.specs.Prelude.{ℕ, ◌≡◌, ◌+◌, ◌<◌, ◌≤◌, List, [], length, max, slice_index, slice_index_or}
use Rattle.lock_queues.specs.Sections.{entry_at}
use Rattle.lock_queues.specs.Slots.{AreSlots, opened_in}
use Rattle.lock_queues.specs.declared.slots.Slot.{Slot}
use Rattle.lock_queues.specs.declared.sections.Entry.{Entry}

pub record OneQueue : Type 0 where
  pub width : ℕ
  -- the closed sections, in the order of their releases
  pub entries : List Entry
  pub slots : List Slot
  -- of each thread, how many of the closed sections it has found counted
  pub found : List ℕ
  -- for how many entries there is memory
  pub most : ℕ
  -- none of its lists has memory for more
  pub reserved : ℕ

-- what the fields keep
pub record IsKept (width : ℕ) (entries : List Entry) (slots : List Slot) (found : List ℕ) (most : ℕ) :
    Type 0 where
  pub within : (t : ℕ) → slice_index found t ≤ length entries
  pub wide : (k : ℕ) → k < length entries → (entry_at entries k).place.width ≤ width
  pub marked : (k : ℕ) → k < length entries
      → (entry_at entries k).acquire.thread < (entry_at entries k).place.width
  pub own : AreSlots (length found) slots
  pub spare : length entries + length slots ≤ most

-- there may be other slots and other memory, and all else is as it was
pub record SameMeaning (old new : OneQueue) : Type 0 where
  pub width : new.width ≡ old.width
  pub entries : new.entries ≡ old.entries
  pub opened : opened_in new.slots ≡ opened_in old.slots
  pub found : slice_index new.found ≡ slice_index old.found

abbrev pub no_queue : OneQueue
no_queue = record { width = 0; entries = []; slots = []; found = []; most = 0; reserved = 0 }

abbrev pub queue_at : List OneQueue → ℕ → OneQueue
queue_at queues l = slice_index_or queues l no_queue

-- the queues hold the same, with none where there is no queue
abbrev pub AreAlike : List OneQueue → List OneQueue → Type 0
AreAlike old new =
    (l : ℕ) → ((queue_at new l).entries ≡ (queue_at old l).entries)
    × ((queue_at new l).slots ≡ (queue_at old l).slots)
    × ((queue_at new l).found ≡ (queue_at old l).found)
    × ((queue_at new l).reserved ≡ (queue_at old l).reserved)

-- how many places its lists need for one slot more, that of the thread
abbrev pub places_for : OneQueue → ℕ → ℕ
places_for q thread = max (thread + 1) (length q.entries + length q.slots + 1)
