use Rattle.std.proofs.Common.{arith}
use Rattle.event_core.specs.Rows.{join}
use Rattle.hb_clocks.proofs.RowsProperties.{front_takes, back_takes, front_widths, back_widths}
use Rattle.hb_clocks.proofs.rows.join_rows.Goals as goal

pub returns-then-from-to-clause-rows : goal.returns-then-from-to-clause-rows
returns-then-from-to-clause-rows c =
    let s = c.split_at_mut-below.ensures in
    back_takes c.args.rows.now _ _ _ s.value join c.args.to c.args.from _ s.front_len s.back_len
    c.requires.to c.if-from-to.true c.join_row.ensures.rows

pub returns-then-from-to-clause-widths : goal.returns-then-from-to-clause-widths
returns-then-from-to-clause-widths c =
    back_widths c.args.rows.now _ _ _ c.split_at_mut-below.ensures.value c.join_row.ensures.widths

pub returns-else-from-to-clause-rows : goal.returns-else-from-to-clause-rows
returns-else-from-to-clause-rows c =
    let s = c.split_at_mut-below-else-from-to.ensures in
    let w = c.join_row-else-from-to in
    front_takes c.args.rows.now _ _ _ s.value join c.args.to c.args.from _ w.auto.rows s.front_len
    s.back_len c.requires.from (omega arith) w.ensures.rows

pub returns-else-from-to-clause-widths : goal.returns-else-from-to-clause-widths
returns-else-from-to-clause-widths c =
    let w = c.join_row-else-from-to in
    front_widths c.args.rows.now _ _ _ c.split_at_mut-below-else-from-to.ensures.value w.auto.rows
    w.ensures.widths
