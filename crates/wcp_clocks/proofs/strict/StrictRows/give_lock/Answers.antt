use Rattle.std.proofs.Common.{arith, refl}
use Rattle.std.proofs.lemmas.Grind.{common_steps}
use Rattle.wcp_clocks.proofs.RowsKept.{tables_kept, seen_kept, lock_within}
use Rattle.wcp_clocks.proofs.strict.StrictRows.give_lock.Goals as goal

pub invariant_of-self : goal.invariant_of-self
invariant_of-self c = tables_kept c.self.invariant refl (grind (arith, common_steps))

pub returns-clause-kept : goal.returns-clause-kept
returns-clause-kept c = seen_kept c.self.view_is refl (grind (arith, common_steps))

pub copy_row-requires-clause-room : goal.copy_row-requires-clause-room
copy_row-requires-clause-room c =
    lock_within c.self.view_is c.self.invariant c.deref_mut.ensures.value c.requires.lock_room
