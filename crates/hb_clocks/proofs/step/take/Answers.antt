use Rattle.std.proofs.Common.{subst, arith}
use Rattle.hb_clocks.specs.Tables.{HasClocks}
use Rattle.hb_clocks.proofs.MadeRows.{made_within, read_width, row_within}
use Rattle.hb_clocks.proofs.RowsWithin.{some_width, po_within, hb_within}
use Rattle.hb_clocks.proofs.step.take.Goals as goal

-- the rows that are named were made, and so lie within their tables
pub bounds-locks-lock : goal.bounds-locks-lock
bounds-locks-lock c =
    made_within
    (subst (HasClocks _ c.args.po.now c.args.hb.now c.args.locks.now) c.in-Acquire.is c.requires.clocks)
    (some_width c.requires.thread)

pub join_row-requires-clause-room : goal.join_row-requires-clause-room
join_row-requires-clause-room c = hb_within c.requires.thread

pub join_row-requires-clause-wide : goal.join_row-requires-clause-wide
join_row-requires-clause-wide c =
    let lock =
    subst (HasClocks _ c.args.po.now c.args.hb.now c.args.locks.now) c.in-Acquire.is c.requires.clocks in
    grind (arith, read_width, row_within)

pub join_rows-requires-clause-to : goal.join_rows-requires-clause-to
join_rows-requires-clause-to c = po_within c.requires.thread

pub join_rows-requires-clause-from : goal.join_rows-requires-clause-from
join_rows-requires-clause-from c =
    po_within
    (subst (HasClocks _ c.args.po.now c.args.hb.now c.args.locks.now) c.in-Join.is c.requires.clocks)

pub join_rows-requires-in-Join-clause-to : goal.join_rows-requires-in-Join-clause-to
join_rows-requires-in-Join-clause-to c = hb_within c.requires.thread

pub join_rows-requires-in-Join-clause-from : goal.join_rows-requires-in-Join-clause-from
join_rows-requires-in-Join-clause-from c =
    hb_within
    (subst (HasClocks _ c.args.po.now c.args.hb.now c.args.locks.now) c.in-Join.is c.requires.clocks)
