use Rattle.std.proofs.Common.{rules, ◌≡◌, ℕ, List, slice_set, ap, ◌∙◌}
use Rattle.traced_mem.specs.After.{updated}
use Rattle.traced_mem.specs.Tables.{cells_of}
use Rattle.traced_mem.proofs.rows.write.Goals as goal

pub returns-clause-rows : goal.returns-clause-rows
returns-clause-rows c =
    let longer : List ℕ = c.lengthen.new.cells.items in
    let set : cells_of (slice_set longer c.args.cell c.args.value)
    ≡ updated c.args.cell c.args.value (cells_of longer)
    = search rules in
    set ∙ ap (updated c.args.cell c.args.value) c.lengthen.ensures.same
