use Rattle.std.proofs.Common.{sym, ap, ◌∙◌}
use Rattle.section_sum.specs.declared.cell.Cell.{Cell}
use Rattle.section_sum.specs.Cell.{sources_in}
use Rattle.section_sum.proofs.IsKeptProperties.{no_lock}
use Rattle.section_sum.proofs.LockSumsProperties.{none_there, none_met}
use Rattle.section_sum.proofs.locks.sources_under.Goals as goal

pub returns-then-at-locks : goal.returns-then-at-locks
returns-then-at-locks c =
    c.none.ensures
    ∙ sym (ap (λ (x : Cell). sources_in x c.args.kind c.args.thread.0)
    (none_there c.args.cells.now c.args.lock.0 c.args.var.0 (c.requires.kept 0).same
    (no_lock c.args.cells.now c.args.locks.now c.args.lock.0 c.args.var.0 c.requires.kept
    c.if-at-locks.true))
    ∙ none_met c.args.kind c.args.thread.0)

pub returns-in_default : goal.returns-in_default
returns-in_default c =
    c.none-in_default.ensures
    ∙ sym (ap (λ (x : Cell). sources_in x c.args.kind c.args.thread.0)
    (none_there c.args.cells.now c.args.lock.0 c.args.var.0 (c.requires.kept 0).same c.in_default.ensures)
    ∙ none_met c.args.kind c.args.thread.0)
