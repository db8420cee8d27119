use Rattle.std.proofs.Common.{sym, subst}
use Rattle.event_core.specs.declared.events.Op.TheVariants.{Load, Store}
use Rattle.access_check.specs.LastAccesses.{AreNarrow}
use Rattle.access_check.proofs.AreNarrowProperties.{narrow_after}
use Rattle.access_check.proofs.tables.note_access.Goals as goal

pub returns-in-Load-clause-narrow : goal.returns-in-Load-clause-narrow
returns-in-Load-clause-narrow c = λ width lt all x k. subst (AreNarrow width) (sym
    (c.note_at.ensures.accesses x k))
    (narrow_after width c.args.verdict c.args.event.now.thread (Load c.in-Load.var) c.args.access x k _ lt
    (all x))

pub returns-in-Store-clause-narrow : goal.returns-in-Store-clause-narrow
returns-in-Store-clause-narrow c = λ width lt all x k. subst (AreNarrow width) (sym
    (c.note_at-in-Store.ensures.accesses x k))
    (narrow_after width c.args.verdict c.args.event.now.thread (Store c.in-Store.var) c.args.access x k _ lt
    (all x))
