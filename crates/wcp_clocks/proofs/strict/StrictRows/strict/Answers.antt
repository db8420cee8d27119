use Rattle.std.proofs.Common.{ℕ, List, length, ap, ◌∙◌}
use Rattle.std.proofs.lemmas.List.{length-replicate}
use Rattle.hb_clocks.specs.Rows.{rows_of}
use Rattle.wcp_clocks.specs.StrictRows.{StrictTables, strict_of}
use Rattle.hb_clocks.proofs.RowsWithin.{wide_by}
use Rattle.wcp_clocks.proofs.Rows.{row_is}
use Rattle.wcp_clocks.proofs.strict.StrictRows.strict.Goals as goal

pub returns-clause-counts : goal.returns-clause-counts
returns-clause-counts c =
    c.row_or.ensures.counts
    ∙ ap (λ (rows : List (List ℕ)). rows_of rows c.args.thread.0) c.deref.ensures.value
    ∙ ap (λ (s : StrictTables). (strict_of s).thread c.args.thread.0) c.self.view_is

pub returns-clause-at : goal.returns-clause-at
returns-clause-at c u = ap (λ (f : ℕ → ℕ). f u) (returns-clause-counts c)

pub returns-clause-row : goal.returns-clause-row
returns-clause-row c has =
    row_is c.args.self.now.thread c.args.thread.0 c.args.self.now.width c.row_or.result.now
    (c.row_or.ensures.width ∙ ap (λ (xs : List ℕ). length xs) c.self.invariant.only_zeros
    ∙ length-replicate c.self.inside.width 0 ∙ ap (λ (s : StrictTables). s.width) c.self.view_is)
    (returns-clause-counts c) has.made

pub row_or-requires-clause-wide : goal.row_or-requires-clause-wide
row_or-requires-clause-wide c =
    wide_by c.self.inside.width c.self.inside.zeros c.self.inside.threads.items c.deref.result.now
    c.self.invariant.only_zeros c.self.invariant.thread_wide c.deref.ensures.value
