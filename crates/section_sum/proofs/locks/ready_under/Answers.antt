use Rattle.std.proofs.Common.{sym, ◌∙◌}
use Rattle.std.proofs.lemmas.Bool.{le-ltb}
use Rattle.section_sum.proofs.IsKeptProperties.{no_lock}
use Rattle.section_sum.proofs.locks.ready_under.Goals as goal

pub returns-else-at-locks : goal.returns-else-at-locks
returns-else-at-locks c =
    le-ltb _ _ c.if-at-locks.false
    ∙ sym (le-ltb _ _ (no_lock c.args.cells.now c.args.locks.now c.args.lock.0 c.args.var.0 c.requires.kept
    c.if-at-locks.false))
