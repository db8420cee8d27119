use Rattle.wcp_clocks.proofs.GrownForProperties.{order_grown, rows_grown}
use Rattle.wcp_clocks.proofs.room.prepare_clocks.Goals as goal

pub returns-in_err-prepare_for-clause-grown : goal.returns-in_err-prepare_for-clause-grown
returns-in_err-prepare_for-clause-grown c =
    order_grown c.args.order.now c.prepare_for.new.self c.args.rows.now c.prepare_for.ensures.same
    c.prepare_for.ensures.width c.prepare_for.ensures.kept

pub returns-clause-grown : goal.returns-clause-grown
returns-clause-grown c =
    let rows = c.prepare.ensures in
    rows_grown c.args.thread c.args.op
    (order_grown c.args.order.now c.prepare_for.new.self c.args.rows.now c.prepare_for.ensures.same
    c.prepare_for.ensures.width c.prepare_for.ensures.kept) rows.same rows.kept
    c.in_ok-prepare_for.ensures.ready rows.grown
