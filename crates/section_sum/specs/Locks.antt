-- What calls make of what is kept of all locks.
use Rattle.std.specs.Prelude.{ℕ, ◌≡◌, false, ◌&&◌, List, nat_eq}
use Rattle.event_core.specs.declared.ids.LockId.{LockId}
use Rattle.event_core.specs.declared.events.AccessKind.{AccessKind}
use Rattle.section_sum.specs.Entries.{Entries, SaysSame, HasNoted, HasClosed}
use Rattle.section_sum.specs.Cells.{Stored, has_cell}
use Rattle.section_sum.specs.Sums.{is_held}

-- the same is said of each lock, and there is no less room
abbrev pub SaySame : (ℕ → Entries) → (ℕ → Entries) → Type 0
SaySame before after = (l : ℕ) → SaysSame (before l) (after l)

-- no cell joined but one of the variable under each of the locks
abbrev pub HaveGrown : List LockId → ℕ → Stored → Stored → Type 0
HaveGrown held var before after = (l v : ℕ) → (is_held held l && nat_eq v var) ≡ false
    → has_cell after l v ≡ has_cell before l v

-- the access is noted under each of the locks
abbrev pub HaveNoted : ℕ → List LockId → ℕ → AccessKind → (ℕ → Entries) → (ℕ → Entries) → Type 0
HaveNoted thread held var kind before after =
    (l : ℕ) → HasNoted thread var kind (is_held held l) (before l) (after l)

-- the thread's section on the lock with the number ended
abbrev pub HaveClosed : ℕ → ℕ → ℕ → (ℕ → Entries) → (ℕ → Entries) → Type 0
HaveClosed thread lock number before after =
    (l : ℕ) → HasClosed thread number (nat_eq l lock) (before l) (after l)
