-- What is kept of a lock beside its cells.
use Rattle.std.specs.Prelude.{
  ℕ,
  ◌+◌,
  ◌*◌,
  ◌≡◌,
  ◌<◌,
  ◌≤◌,
  Bool,
  true,
  ◌&&◌,
  List,
  [],
  length,
  map,
  nat_eq,
  slice_index_or,
  Option,
  None,
  IfSome,
  Vec,
  vec_capacity,
}
use Rattle.std.specs.List.{list_any}
use Rattle.section_sum.specs.Cell.{cell_at, is_noted}
use Rattle.section_sum.specs.Cells.{Stored, cell_place, lock_at, count_to}
use Rattle.section_sum.specs.declared.cells.Place.{Place}
use Rattle.section_sum.specs.declared.lock.Sought.{Sought}

-- the thread of the open section, how many cells the lock has, those with an access in the open section, for
-- how many of them there is room, and what was sought
pub record LockSum : Type 0 where
  pub by : ℕ
  pub count : ℕ
  pub listed : List ℕ
  pub most : ℕ
  pub sought : Option Sought

abbrev pub no_kept : LockSum
no_kept = record { by = 0; count = 0; listed = []; most = 0; sought = None }

abbrev pub kept_at : List LockSum → ℕ → LockSum
kept_at locks l = slice_index_or locks l no_kept

-- what contracts see of it: all except what was sought
abbrev pub shown : LockSum → LockSum
shown k = record { by = k.by; count = k.count; listed = k.listed; most = k.most; sought = None }

abbrev pub all_shown : List LockSum → List LockSum
all_shown = map shown

-- the cell with the number is one of the lock
abbrev pub is_own : ℕ → Stored → ℕ → Bool
is_own l s i = nat_eq (lock_at s.places i) l

-- and has an access in the open section
abbrev pub is_marked : ℕ → Stored → ℕ → Bool
is_marked l s i = is_own l s i && is_noted (cell_at s.cells i)

-- what was sought stands there
abbrev pub IsSought : ℕ → List Place → Option Sought → Type 0
IsSought l places sought = IfSome sought (λ s. (s.at ≡ cell_place places l s.var) × (s.at < length places))

-- a list of a lock's cells: all with an access in the open section, and no others' cells
pub record AreListed (l : ℕ) (s : Stored) (listed : List ℕ) : Type 0 where
  pub marks : (i : ℕ) → is_marked l s i ≡ true → list_any (nat_eq i) listed ≡ true
  pub own : (i : ℕ) → list_any (nat_eq i) listed ≡ true → (i < length s.places) × (is_own l s i ≡ true)

-- what is kept of the lock fits its cells
pub record IsKept (l : ℕ) (s : Stored) (k : LockSum) : Type 0 where
  -- a cell for each place
  pub same : length s.cells ≡ length s.places
  pub listed : AreListed l s k.listed
  -- no more are listed than have an access in the open section
  pub few : length k.listed ≤ count_to (is_marked l s) (length s.places)
  pub count : count_to (is_own l s) (length s.places) ≡ k.count
  pub capacity : k.count ≤ k.most
  -- there is memory for at most twice as many as the lock has, and one
  pub memory : k.most ≤ 2 * (k.count + 1)
  pub sought : IsSought l s.places k.sought

-- and so is what is kept of each lock
abbrev pub AreKept : Stored → List LockSum → Type 0
AreKept s locks = (l : ℕ) → IsKept l s (kept_at locks l)

-- there is memory for at most twice as many rows as there are
abbrev pub IsFitted : {X Z : Type 0} → Vec X Z → Type 0
IsFitted rows = vec_capacity rows ≤ 2 * length rows.items
