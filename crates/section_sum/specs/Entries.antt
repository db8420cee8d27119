-- What is kept of a lock, as what it says of each variable.
use Rattle.std.specs.Prelude.{ℕ, ◌≡◌, Bool, true, false, not, ◌&&◌, ◌||◌, cond, List, nat_eq}
use Rattle.section_sum.specs.Newest.{others_at}
use Rattle.section_sum.specs.Cell.{cell_at, side, is_kind, sources_in}
use Rattle.section_sum.specs.Cells.{Stored, cell_place, has_cell}
use Rattle.section_sum.specs.LockSums.{LockSum, kept_at}
use Rattle.section_sum.specs.declared.cell.Cell.{Cell}
use Rattle.event_core.specs.declared.events.AccessKind.{AccessKind}

-- of each variable its cell, and whether there is one; and the one thread with an open section
pub record Entries : Type 0 where
  pub cell : ℕ → Cell
  pub ready : ℕ → Bool
  pub by : ℕ

abbrev pub entries_of : Stored → List LockSum → ℕ → Entries
entries_of s locks l = record {
  cell = λ v. cell_at s.cells (cell_place s.places l v);
  ready = has_cell s l;
  by = (kept_at locks l).by;
}

-- the thread's open section has such an access
abbrev pub noted_at : Entries → ℕ → ℕ → AccessKind → Bool
noted_at p t v k = nat_eq t p.by && (side k (p.cell v)).noted

-- the newest closed section by another thread than t with such an access
abbrev pub others_on : Entries → ℕ → AccessKind → ℕ → ℕ
others_on p v k t = others_at (side k (p.cell v)).newest t

-- the sections that an access of the kind meets
abbrev pub sources_on : Entries → ℕ → AccessKind → ℕ → List ℕ
sources_on p v k t = sources_in (p.cell v) k t

-- no other thread has an open section with an access
abbrev pub IsAlone : Entries → ℕ → Type 0
IsAlone p t = (u v : ℕ) (k : AccessKind) → (u ≡ t → ⊥) → noted_at p u v k ≡ false

-- the same is noted, the others' sections are the same, and there is no less room
pub record SaysSame (before after : Entries) : Type 0 where
  pub noted : (t v : ℕ) (k : AccessKind) → noted_at after t v k ≡ noted_at before t v k
  pub others : (v : ℕ) (k : AccessKind) (t : ℕ) → others_on after v k t ≡ others_on before v k t
  pub ready : (v : ℕ) → before.ready v ≡ true → after.ready v ≡ true

-- the thread's open section gained such an access, where the test passes
pub record HasNoted (thread var : ℕ) (kind : AccessKind) (on : Bool) (before after : Entries) : Type 0 where
  pub noted : (t v : ℕ) (k : AccessKind)
      → noted_at after t v k ≡ (noted_at before t v k
      || (nat_eq t thread && (on && (nat_eq v var && is_kind k kind))))
  pub others : (v : ℕ) (k : AccessKind) (t : ℕ) → others_on after v k t ≡ others_on before v k t
  pub ready : (v : ℕ) → before.ready v ≡ true → after.ready v ≡ true

-- the thread's section with the number ended, where the test passes
pub record HasClosed (thread number : ℕ) (on : Bool) (before after : Entries) : Type 0 where
  pub noted : (t v : ℕ) (k : AccessKind) → noted_at after t v k
      ≡ (noted_at before t v k && not (nat_eq t thread && on))
  pub others : (v : ℕ) (k : AccessKind) (t : ℕ) → others_on after v k t
      ≡ cond (on && (not (nat_eq t thread) && noted_at before thread v k)) number (others_on before v k t)
  pub ready : (v : ℕ) → before.ready v ≡ true → after.ready v ≡ true
