use Rattle.std.proofs.Common.{List, length, ap, sym, subst, arith}
use Rattle.traced_mem.specs.declared.rows.ThreadRow.{ThreadRow}
use Rattle.traced_mem.specs.Room.{Grown}
use Rattle.traced_mem.proofs.GrownProperties.{grown_more}
use Rattle.traced_mem.proofs.IsReadyProperties.{given_back}
use Rattle.traced_mem.proofs.growth.grow.Goals as goal

pub returns-clause-threads : goal.returns-clause-threads
returns-clause-threads c =
    let lent = c.deref_mut.ensures in
    subst (Grown c.args.threads.now.items)
    (sym (given_back c.grow_for.new.threads lent.value lent.len c.grow_for.ensures.as_many))
    (grown_more c.more_threads.ensures.grown
    (subst (λ (ts : List ThreadRow). Grown ts c.grow_for.new.threads) lent.value c.grow_for.ensures.threads))

pub returns-clause-most_threads : goal.returns-clause-most_threads
returns-clause-most_threads c =
    let lent = c.deref_mut.ensures in
    let back = given_back c.grow_for.new.threads lent.value lent.len c.grow_for.ensures.as_many in
    omega (arith, ap length back, c.grow_for.ensures.as_many, ap length lent.value)
