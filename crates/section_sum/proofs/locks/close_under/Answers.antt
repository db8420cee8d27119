use Rattle.std.proofs.Common.{rules, ◌≡◌, ◌<◌, length, sym, ap, ◌∙◌, arith}
use Rattle.std.proofs.lemmas.List.{get_or_default}
use Rattle.std.specs.Prelude.{nat_eq}
use Rattle.section_sum.specs.Cell.{cell_at, closed_as}
use Rattle.section_sum.specs.Cells.{lock_at}
use Rattle.section_sum.specs.LockSums.{LockSum, no_kept, kept_at}
use Rattle.section_sum.proofs.IsKeptProperties.{kept_other}
use Rattle.section_sum.specs.Entries.{HasClosed}
use Rattle.section_sum.proofs.LocksProperties.{one_lock, closed_none}
use Rattle.section_sum.proofs.LockSumsProperties.{kept_set, kept_read, kept_back, says_other, says_ended}
use Rattle.section_sum.proofs.LockSumsProperties.{ended_changed, ended_none}
use Rattle.section_sum.proofs.locks.close_under.Goals as goal

pub close-requires : goal.close-requires
close-requires c = record {
  kept = kept_read c.args.lock.0 c.args.cells.now c.args.locks.now.items c.index_mut-kept.result.now
      (omega (arith, c.if-at-len.true, c.len.ensures)) c.requires.kept c.index_mut-kept.ensures.value;
}

pub returns-else-eq-clause-kept : goal.returns-else-eq-clause-kept
returns-else-eq-clause-kept c =
    kept_back c.args.lock.0 c.args.cells.now c.args.locks.now.items c.index_mut-kept.result.now
    (omega (arith, c.if-at-len.true, c.len.ensures)) c.requires.kept c.index_mut-kept.ensures.value

pub returns-then-eq-clause-kept : goal.returns-then-eq-clause-kept
returns-then-eq-clause-kept c =
    let h : c.args.lock.0 < length c.args.locks.now.items = search rules in
    let changed = ended_changed c.args.lock.0 _ c.args.number c.args.cells.now c.close.new.cells
    (c.requires.kept 0).same c.close.ensures.kept.same c.close.ensures.places c.close.ensures.exact in
    kept_set c.args.lock.0 c.close.new.cells c.args.locks.now.items c.close.new.self h c.close.ensures.kept
    (λ m n. kept_other c.args.lock.0 m c.args.cells.now c.close.new.cells _ n changed (c.requires.kept m))

pub returns-then-eq-clause-closed : goal.returns-then-eq-clause-closed
returns-then-eq-clause-closed c =
    let h : c.args.lock.0 < length c.args.locks.now.items = search rules in
    let old : c.index_mut-kept.result.now ≡ kept_at c.args.locks.now.items c.args.lock.0
    = c.index_mut-kept.ensures.value
    ∙ get_or_default c.args.locks.now.items c.args.lock.0 c.index_mut-kept.result.now no_kept h in
    let by : c.index_mut-kept.result.now.by ≡ c.args.thread.0 = search rules in
    let changed = ended_changed c.args.lock.0 _ c.args.number c.args.cells.now c.close.new.cells
    (c.requires.kept 0).same c.close.ensures.kept.same c.close.ensures.places c.close.ensures.exact in
    one_lock (HasClosed c.args.thread.0 c.args.number) c.args.lock.0 _ _
    (says_ended c.args.lock.0 c.args.thread.0 c.args.number c.args.cells.now c.close.new.cells
    c.args.locks.now.items c.close.new.self h (c.close.ensures.by ∙ ap (λ (k : LockSum). k.by) old)
    (sym (ap (λ (k : LockSum). k.by) old) ∙ by) (c.requires.kept 0).same c.close.ensures.places
    (λ i. c.close.ensures.exact i
    ∙ ap (λ (k : LockSum).
    closed_as (nat_eq (lock_at c.args.cells.now.places i) c.args.lock.0) k.by c.args.number
    (cell_at c.args.cells.now.cells i)) old))
    (λ m n. closed_none c.args.thread.0 c.args.number _ _ (says_other c.args.lock.0 m c.args.cells.now
    c.close.new.cells c.args.locks.now.items c.close.new.self n changed))

pub returns-else-at-len-clause-closed : goal.returns-else-at-len-clause-closed
returns-else-at-len-clause-closed c =
    ended_none c.args.thread.0 c.args.lock.0 c.args.number c.args.cells.now c.args.locks.now.items
    c.requires.kept (search rules)
