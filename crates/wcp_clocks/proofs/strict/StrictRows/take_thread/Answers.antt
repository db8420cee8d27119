use Rattle.std.proofs.Common.{arith, refl}
use Rattle.std.proofs.lemmas.Grind.{common_steps}
use Rattle.wcp_clocks.proofs.RowsKept.{tables_kept, seen_kept, thread_within}
use Rattle.wcp_clocks.proofs.strict.StrictRows.take_thread.Goals as goal

pub invariant_of-self : goal.invariant_of-self
invariant_of-self c = tables_kept c.self.invariant (grind (arith, common_steps)) refl

pub returns-clause-kept : goal.returns-clause-kept
returns-clause-kept c = seen_kept c.self.view_is (grind (arith, common_steps)) refl

pub join_rows-requires-clause-to : goal.join_rows-requires-clause-to
join_rows-requires-clause-to c =
    thread_within c.self.view_is c.self.invariant c.deref_mut.ensures.value c.requires.room

pub join_rows-requires-clause-from : goal.join_rows-requires-clause-from
join_rows-requires-clause-from c =
    thread_within c.self.view_is c.self.invariant c.deref_mut.ensures.value c.requires.other_room
