-- Cells that change, and a cell that joins the others.
use Rattle.std.proofs.Common.{◌≡◌, ℕ, ◌<◌, length, List, nat_eq, set, refl, sym, ap, ◌∙◌}
use Rattle.std.proofs.lemmas.Bool.{eq-eqb, ne_eqb}
use Rattle.section_sum.specs.declared.cell.Cell.{Cell}
use Rattle.event_core.specs.declared.events.AccessKind.{AccessKind}
use Rattle.section_sum.specs.Cell.{no_cell, cell_at, closed, closed_as, marked, marked_as}
use Rattle.section_sum.proofs.ListProperties.{at_set}

-- marking an access
pub marked_at : (kind : AccessKind) (cells : List Cell) (at : ℕ) (x : Cell) → at < length cells
    → x ≡ marked kind (cell_at cells at)
    → (i : ℕ) → cell_at (set cells at x) i ≡ marked_as (nat_eq i at) kind (cell_at cells i)
marked_at kind cells at x h q i =
    at_set no_cell (λ (j : ℕ) (y : Cell). y ≡ marked_as (nat_eq j at) kind (cell_at cells j)) cells at x h
    (q ∙ sym (ap (λ b. marked_as b kind (cell_at cells at)) (eq-eqb at at refl))) i
    (λ n. sym (ap (λ b. marked_as b kind (cell_at cells i)) (ne_eqb i at n)))

-- closing a section
pub closed_at : (thread number : ℕ) (cells : List Cell) (at : ℕ) (x : Cell) → at < length cells
    → x ≡ closed thread number (cell_at cells at)
    → (i : ℕ) → cell_at (set cells at x) i ≡ closed_as (nat_eq i at) thread number (cell_at cells i)
closed_at t n cells at x h q i =
    at_set no_cell (λ (j : ℕ) (y : Cell). y ≡ closed_as (nat_eq j at) t n (cell_at cells j)) cells at x h
    (q ∙ sym (ap (λ b. closed_as b t n (cell_at cells at)) (eq-eqb at at refl))) i
    (λ n2. sym (ap (λ b. closed_as b t n (cell_at cells i)) (ne_eqb i at n2)))
