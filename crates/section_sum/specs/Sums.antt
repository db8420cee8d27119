-- What is kept of all locks, in numbers.
use Rattle.std.specs.Prelude.{ℕ, ◌≡◌, ◌<◌, ◌≤◌, Bool, true, false, ◌&&◌, ◌++◌, List, length, max, nat_eq}
use Rattle.std.specs.List.{list_any}
use Rattle.event_core.specs.declared.ids.LockId.{LockId}
use Rattle.event_core.specs.declared.events.AccessKind.{AccessKind}
use Rattle.event_core.specs.declared.events.AccessKind.TheVariants.{Read, Write}
use Rattle.section_sum.specs.Newest.{section}
use Rattle.section_sum.specs.Cell.{is_kind}
use Rattle.section_sum.specs.Cells.{Stored}
use Rattle.section_sum.specs.LockSums.{LockSum}
use Rattle.section_sum.specs.Entries.{Entries, entries_of, noted_at, others_on}

-- the cells of all locks, and what is kept of each lock beside them, except which cell was sought last
pub record Sums : Type 0 where
  pub cells : Stored
  pub locks : List LockSum

-- what is said of the lock
abbrev pub said_of : Sums → ℕ → Entries
said_of s = entries_of s.cells s.locks

-- the thread's open section on the lock has such an access to the variable
unfoldable pub noted_of : Sums → ℕ → ℕ → ℕ → AccessKind → Bool
noted_of s thread lock var kind = noted_at (said_of s lock) thread var kind

-- the number of the newest closed section on the lock by another thread with such an access to the
-- variable, 0 where there is none
unfoldable pub others_of : Sums → ℕ → ℕ → AccessKind → ℕ → ℕ
others_of s lock var kind thread = others_on (said_of s lock) var kind thread

-- an access to the variable in a section on the lock, and that section's end, need no memory
unfoldable pub is_ready : Sums → ℕ → ℕ → Bool
is_ready s lock var = (said_of s lock).ready var

-- the lock is one of the list
abbrev pub is_held : List LockId → ℕ → Bool
is_held held lock = list_any (λ (m : LockId). nat_eq lock m.0) held

-- there is room for an access to the variable in sections on each of the locks
abbrev pub IsReady : Sums → List LockId → ℕ → Type 0
IsReady s held var = (l : ℕ) → is_held held l ≡ true → is_ready s l var ≡ true

-- no other thread has an open section on one of the locks with an access
abbrev pub IsAlone : Sums → ℕ → List LockId → Type 0
IsAlone s thread held =
    (l t v : ℕ) (k : AccessKind) → is_held held l ≡ true → (t ≡ thread → ⊥) → noted_of s t l v k ≡ false

-- the access is noted: the thread, one of the locks, the variable and the kind
abbrev pub is_access : ℕ → List LockId → ℕ → AccessKind → ℕ → ℕ → ℕ → AccessKind → Bool
is_access thread held var kind t l v k = nat_eq t thread
    && (is_held held l && (nat_eq v var && is_kind k kind))

-- the same is noted
abbrev pub SameNoted : Sums → Sums → Type 0
SameNoted old new = (t l v : ℕ) (k : AccessKind) → noted_of new t l v k ≡ noted_of old t l v k

-- each thread's newest sections of the others are the same
abbrev pub SameOthers : Sums → Sums → Type 0
SameOthers old new = (l v : ℕ) (k : AccessKind) (t : ℕ) → others_of new l v k t ≡ others_of old l v k t

-- where there was room there is room
abbrev pub KeepsReady : Sums → Sums → Type 0
KeepsReady old new = (l v : ℕ) → is_ready old l v ≡ true → is_ready new l v ≡ true

-- no other pair of a lock and a variable got room than the variable under one of the locks
abbrev pub GrownFor : Sums → Sums → List LockId → ℕ → Type 0
GrownFor old new held var = (l v : ℕ) → (is_held held l && nat_eq v var) ≡ false
    → is_ready new l v ≡ is_ready old l v

-- no more locks are known than there were, or than up to those of the list
abbrev pub LocksGrownFor : Sums → Sums → List LockId → Type 0
LocksGrownFor old new held = (n : ℕ) → ((l : ℕ) → is_held held l ≡ true → l < n)
    → length new.locks ≤ max (length old.locks) n

-- the same pairs of a lock and a variable have cells, and as many locks are known. There is memory for at
-- most twice as many, and one
pub record SameMemory (old new : Sums) : Type 0 where
  pub cells : new.cells.places ≡ old.cells.places
  pub locks : length new.locks ≡ length old.locks

-- the numbers of the sections that an access of the kind by the thread meets under the lock: a load meets
-- the newest with a store, and a store that and the newest with a load
unfoldable pub sources_of : Sums → ℕ → ℕ → AccessKind → ℕ → List ℕ
sources_of s lock var Read thread = section (others_of s lock var Write thread)
sources_of s lock var Write thread = section (others_of s lock var Write thread)
    ++ section (others_of s lock var Read thread)
