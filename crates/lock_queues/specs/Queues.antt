-- What is kept of all locks, and what it means.
use Rattle.std.specs.Prelude.{ℕ, ◌≡◌, ◌+◌, ◌*◌, ◌<◌, ◌≤◌, List, length, max, slice_index, Bool, sum_by}
use Rattle.event_core.specs.Bounds.{Bounds}
use Rattle.event_core.specs.Closed.{Closed, number_counted}
use Rattle.hb_clocks.specs.Counts.{counts_of}
use Rattle.lock_queues.specs.Sections.{sections_of, AreReadable, AreRising}
use Rattle.lock_queues.specs.Slots.{opened_in, has_slot}
use Rattle.lock_queues.specs.Queue.{OneQueue, queue_at, places_for}

pub record AllQueues : Type 0 where
  pub limits : Bounds
  pub queues : List OneQueue
  -- of the releases of all sections
  pub numbers : List ℕ
  -- for so many queues and numbers there is memory
  pub queue_room : ℕ
  pub number_room : ℕ

-- the closed sections on the lock, in the order of their releases
abbrev pub closed_of : AllQueues → ℕ → List Closed
closed_of v lock = sections_of v.numbers (queue_at v.queues lock).entries

-- the position of the acquire of the thread's open section on the lock, 0 where there is none
abbrev pub opened_of : AllQueues → ℕ → ℕ → ℕ
opened_of v thread lock = opened_in (queue_at v.queues lock).slots thread

-- how many of the lock's closed sections the thread has found counted
abbrev pub found_of : AllQueues → ℕ → ℕ → ℕ
found_of v lock thread = slice_index (queue_at v.queues lock).found thread

-- whether there is room for the thread's next section on the lock, or for its open one
abbrev pub is_ready : AllQueues → ℕ → ℕ → Bool
is_ready v thread lock = has_slot (queue_at v.queues lock).slots thread

-- how many of the lock's closed sections the clock counts
abbrev pub counted_of : AllQueues → ℕ → List ℕ → ℕ
counted_of v lock clock = number_counted (counts_of clock) (closed_of v lock)

-- each queue keeps clocks of the width
abbrev pub AreWide : ℕ → List OneQueue → Type 0
AreWide width queues = (l : ℕ) → l < length queues → (queue_at queues l).width ≡ width

-- how many slots there are on all locks
abbrev pub count_slots : List OneQueue → ℕ
count_slots queues = sum_by (λ q. length q.slots) queues

-- what the fields keep: later releases of a lock have higher clocks, and there is memory for the numbers of
-- the releases of all sections that have a slot
pub record AreKept (threads : ℕ) (queues : List OneQueue) (numbers : List ℕ) (made most : ℕ) : Type 0 where
  pub wide : AreWide threads queues
  pub readable : (l : ℕ) → AreReadable numbers (queue_at queues l).entries
  pub rising : (l : ℕ) → AreRising (sections_of numbers (queue_at queues l).entries)
  pub slots : made ≡ count_slots queues
  pub spare : length numbers + made * threads ≤ most

-- there may be other slots and other memory, and all else is as it was
pub record SameMeaning (old new : AllQueues) : Type 0 where
  pub closed : closed_of new ≡ closed_of old
  pub opened : opened_of new ≡ opened_of old
  pub found : found_of new ≡ found_of old
  pub limits : new.limits ≡ old.limits

-- each queue has the memory that it had, and so has their table
pub record SamePlaces (old new : AllQueues) : Type 0 where
  pub queues : length new.queues ≡ length old.queues
  pub queue_room : new.queue_room ≡ old.queue_room
  pub places : (l : ℕ) → (queue_at new.queues l).reserved ≡ (queue_at old.queues l).reserved

-- and so has the list of the releases' numbers
pub record SameMemory (old new : AllQueues) : Type 0 where
  pub places : SamePlaces old new
  pub numbers : new.number_room ≡ old.number_room

-- how many numbers the releases have of all sections, of those that have a slot, and of one more
abbrev pub numbers_for : AllQueues → ℕ
numbers_for v = length v.numbers + (count_slots v.queues + 1) * v.limits.threads

-- the queues have grown up to the lock at most, and in its own the numbers found up to the thread; and
-- nothing has memory for more than twice what is needed, or had it before
pub record GrownFor (old new : AllQueues) (thread lock : ℕ) : Type 0 where
  pub queues : length new.queues ≤ max (length old.queues) (lock + 1)
  pub found : length (queue_at new.queues lock).found
      ≤ max (length (queue_at old.queues lock).found) (thread + 1)
  pub others : (l : ℕ) → (l ≡ lock → ⊥) → (queue_at new.queues l).found ≡ (queue_at old.queues l).found
  pub numbers : new.numbers ≡ old.numbers
  pub queue_room : new.queue_room ≤ max old.queue_room (2 * (lock + 1))
  pub number_room : new.number_room ≤ max old.number_room (2 * numbers_for old)
  pub places : (queue_at new.queues lock).reserved
      ≤ max (queue_at old.queues lock).reserved (2 * places_for (queue_at old.queues lock) thread)
  pub other_places : (l : ℕ) → (l ≡ lock → ⊥)
      → (queue_at new.queues l).reserved ≡ (queue_at old.queues l).reserved
