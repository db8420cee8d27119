use Rattle.std.proofs.Common.{length, ap, sym, subst, ◌∙◌}
use Rattle.hb_clocks.specs.Tables.{HasClocks}
use Rattle.hb_clocks.proofs.MadeRows.{made_within, read_width}
use Rattle.hb_clocks.proofs.RowsWithin.{some_width, po_within, hb_within}
use Rattle.hb_clocks.proofs.step.give.Goals as goal

-- the rows that are named were made, and so lie within their tables
pub bounds-hb-at : goal.bounds-hb-at
bounds-hb-at c = hb_within c.requires.thread

pub copy_row-requires-clause-room : goal.copy_row-requires-clause-room
copy_row-requires-clause-room c =
    made_within
    (subst (HasClocks _ c.args.po.now c.args.hb.now c.args.locks.now) c.in-Release.is c.requires.clocks)
    (some_width c.requires.thread)

pub copy_row-requires-clause-wide : goal.copy_row-requires-clause-wide
copy_row-requires-clause-wide c =
    let lock =
    subst (HasClocks _ c.args.po.now c.args.hb.now c.args.locks.now) c.in-Release.is c.requires.clocks in
    lock.wide ∙ sym c.requires.thread.hb_made.wide
    ∙ read_width c.args.hb.now c.args.thread.0 c.index-hb-at.result (hb_within c.requires.thread)
    c.index-hb-at.is ∙ ap length c.index-hb-at.is

pub copy_rows-requires-clause-to : goal.copy_rows-requires-clause-to
copy_rows-requires-clause-to c =
    po_within
    (subst (HasClocks _ c.args.po.now c.args.hb.now c.args.locks.now) c.in-Fork.is c.requires.clocks)

pub copy_rows-requires-clause-from : goal.copy_rows-requires-clause-from
copy_rows-requires-clause-from c = po_within c.requires.thread

pub copy_rows-requires-in-Fork-clause-to : goal.copy_rows-requires-in-Fork-clause-to
copy_rows-requires-in-Fork-clause-to c =
    hb_within
    (subst (HasClocks _ c.args.po.now c.args.hb.now c.args.locks.now) c.in-Fork.is c.requires.clocks)

pub copy_rows-requires-in-Fork-clause-from : goal.copy_rows-requires-in-Fork-clause-from
copy_rows-requires-in-Fork-clause-from c = hb_within c.requires.thread
