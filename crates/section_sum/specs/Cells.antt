-- The cells of all locks, and where they stand.
use Rattle.std.specs.Prelude.{
  ℕ,
  zero,
  suc,
  ◌+◌,
  ◌≡◌,
  Bool,
  ◌&&◌,
  ◌++◌,
  ◌⊎◌,
  cond,
  List,
  [],
  ◌∷◌,
  length,
  nat_eq,
  nat_lt,
  slice_index_or,
}
use Rattle.std.specs.List.{position_or_len}
use Rattle.section_sum.specs.Cell.{no_cell}
use Rattle.section_sum.specs.declared.cell.Cell.{Cell}
use Rattle.section_sum.specs.declared.cells.Place.{Place}

-- the pairs of a lock and a variable with a cell, and their cells
pub record Stored : Type 0 where
  pub places : List Place
  pub cells : List Cell

abbrev pub no_cells : Stored
no_cells = record { places = []; cells = [] }

abbrev pub is_place : ℕ → ℕ → Place → Bool
is_place l v p = nat_eq l p.lock.0 && nat_eq v p.var.0

abbrev pub cell_place : List Place → ℕ → ℕ → ℕ
cell_place places l v = position_or_len (is_place l v) places

-- the variable has a cell under the lock
abbrev pub has_cell : Stored → ℕ → ℕ → Bool
has_cell s l v = nat_lt (cell_place s.places l v) (length s.places)

abbrev pub place : ℕ → ℕ → Place
place l v = record { lock = record { 0 = l }; var = record { 0 = v } }

abbrev pub lock_at : List Place → ℕ → ℕ
lock_at places i = (slice_index_or places i (place 0 0)).lock.0

-- with a cell of the variable under the lock
abbrev pub with_place : Stored → ℕ → ℕ → Stored
with_place s l v = record {
  places = s.places ++ place l v ∷ [];
  cells = s.cells ++ no_cell ∷ [];
}

-- the variable got a cell under the lock, or had one, or there was no memory for it
abbrev pub HasGrown : ℕ → ℕ → Stored → Stored → Type 0
HasGrown l v old new = (new ≡ old)
    ⊎ ((cell_place old.places l v ≡ length old.places) × (new ≡ with_place old l v))

-- how many of the numbers below n pass
abbrev pub count_to : (ℕ → Bool) → ℕ → ℕ
count_to f zero = 0
count_to f (suc n) = count_to f n + cond (f n) 1 0
