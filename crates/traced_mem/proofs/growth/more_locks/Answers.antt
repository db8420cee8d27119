use Rattle.std.proofs.Common.{rules, refl}
use Rattle.traced_mem.specs.declared.rows.LockRow.{LockRow}
use Rattle.traced_mem.specs.Tables.{blank_lock}
use Rattle.traced_mem.proofs.growth.more_locks.Goals as goal

pub returns-clause-sum : goal.returns-clause-sum
returns-clause-sum c =
    c.grow_to.ensures.sums blank_lock (λ (r : LockRow). r.depth) (λ row given. search rules) refl
