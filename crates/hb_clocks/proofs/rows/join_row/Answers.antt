use Rattle.std.proofs.Common.{ap, ◌∙◌, [], List, ℕ}
use Rattle.std.proofs.lemmas.List.{get_or_default}
use Rattle.event_core.specs.Rows.{join, with_row}
use Rattle.hb_clocks.specs.Counts.{counts_of}
use Rattle.hb_clocks.specs.Rows.{rows_of}
use Rattle.hb_clocks.proofs.RowsProperties.{rows_set}
use Rattle.hb_clocks.proofs.rows.join_row.Goals as goal

pub returns-clause-rows : goal.returns-clause-rows
returns-clause-rows c =
    let read = get_or_default c.args.rows.now c.args.at c.index-rows-at.result [] c.requires.room in
    rows_set _ _ _ c.requires.room
    ∙ ap (λ g. with_row c.args.at g (rows_of c.args.rows.now))
    (c.join.ensures.greater ∙ ap (λ (xs : List ℕ). join (counts_of xs) (counts_of c.args.other.now)) read)
