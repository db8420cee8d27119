use Rattle.std.proofs.Common.{◌≡◌, ◌+◌, ◌-◌, ◌≤◌, length, max, vec_capacity}
use Rattle.traced_mem.specs.Tables.{cells_of}
use Rattle.traced_mem.proofs.rows.lengthen.Given as goal

abbrev pub invariant-growing : goal.invariant-growing
invariant-growing l = record {
  same : cells_of l.cells.items ≡ cells_of l.initial.cells.items;
  room : vec_capacity l.cells ≡ vec_capacity l.initial.cells;
  most : length l.cells.items ≤ max (length l.initial.cells.items) (l.cell + 1);
}

abbrev pub decreases-growing : goal.decreases-growing
decreases-growing l = l.cell + 1 - length l.cells.items
