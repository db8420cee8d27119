-- The locks that threads hold, and for how many more there is room.
use Rattle.std.specs.Prelude.{◌≡◌, ℕ, ◌+◌, ◌*◌, ◌<◌, ◌≤◌, List, [], length, map, max, filter, not, nat_eq}
use Rattle.std.specs.Prelude.{slice_index_or}
use Rattle.event_core.specs.declared.ids.LockId.{LockId}

-- the locks of one thread
pub record HeldList : Type 0 where
  pub locks : List LockId
  pub room : ℕ

abbrev pub nothing_held : HeldList
nothing_held = record { locks = []; room = 0 }

-- the locks' numbers
abbrev pub numbers_of : List LockId → List ℕ
numbers_of held = map (λ (l : LockId). l.0) held

-- all but the lock
abbrev pub without_lock : LockId → List LockId → List LockId
without_lock lock held = filter (λ (l : LockId). not (nat_eq l.0 lock.0)) held

-- past the table's end nothing is held
abbrev pub list_at : List HeldList → ℕ → HeldList
list_at lists t = slice_index_or lists t nothing_held

-- the numbers of the locks that each thread holds
abbrev pub held_of : List HeldList → ℕ → List ℕ
held_of lists t = numbers_of (list_at lists t).locks

-- for how many more locks of the thread there is room
abbrev pub room_at : List HeldList → ℕ → ℕ
room_at lists t = (list_at lists t).room

-- for how many locks of the thread there is memory
abbrev pub places_at : List HeldList → ℕ → ℕ
places_at lists t = length (list_at lists t).locks + room_at lists t

-- there are no more lists than up to the thread, and that of the thread alone may have got places: no more
-- than twice what it needs for one lock more
pub record HaveGrownFor (old new : List HeldList) (t : ℕ) : Type 0 where
  pub lists : length new ≤ max (length old) (t + 1)
  pub places : places_at new t ≤ max (places_at old t) (2 * (length (list_at old t).locks + 1))
  pub others : (u : ℕ) → (u ≡ t → ⊥) → list_at new u ≡ list_at old u

-- there are as many lists, each with the places that it had
pub record SamePlaces (old new : List HeldList) : Type 0 where
  pub lists : length new ≡ length old
  pub places : (t : ℕ) → places_at new t ≡ places_at old t

-- there is no less room
abbrev pub KeepsPlaces : List HeldList → List HeldList → Type 0
KeepsPlaces old new = (t : ℕ) → 0 < room_at old t → 0 < room_at new t
