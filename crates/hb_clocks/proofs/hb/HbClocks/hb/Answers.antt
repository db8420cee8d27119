use Rattle.std.proofs.Common.{ap, sym, subst, ◌∙◌}
use Rattle.event_core.specs.Order.{Hb}
use Rattle.event_core.specs.Rows.{Counted}
use Rattle.hb_clocks.specs.Tables.{ClockTables}
use Rattle.hb_clocks.specs.Rows.{rows_of}
use Rattle.hb_clocks.proofs.StandsForProperties.{hb_latest}
use Rattle.hb_clocks.proofs.RowsWithin.{wide_by}
use Rattle.hb_clocks.proofs.hb.HbClocks.hb.Goals as goal

pub row_or-requires-clause-wide : goal.row_or-requires-clause-wide
row_or-requires-clause-wide c =
    wide_by c.self.inside.width c.self.inside.zeros c.self.inside.hb.items c.deref.result.now
    c.self.invariant.only_zeros c.self.invariant.hb_wide c.deref.ensures.value

pub returns-clause-exact : goal.returns-clause-exact
returns-clause-exact c =
    c.row_or.ensures.counts ∙ ap (λ xs. rows_of xs c.args.thread.0) c.deref.ensures.value
    ∙ ap (λ (v : ClockTables). rows_of v.hb c.args.thread.0) c.self.view_is

pub returns-clause-latest : goal.returns-clause-latest
returns-clause-latest c limits log j w st latest =
    subst (Counted log (λ i. Hb log i j)) (sym (returns-clause-exact c))
    (hb_latest limits log c.args.thread j (rows_of c.args.self.now.hb c.args.thread.0) w latest
    (st.hb.thread c.args.thread))
