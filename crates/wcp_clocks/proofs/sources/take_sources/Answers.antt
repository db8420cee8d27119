use Rattle.std.proofs.Common.{◌≡◌, ℕ, length, take, get_or, sym, subst, ◌∙◌, arith}
use Rattle.std.proofs.lemmas.List.{map_more, length-map, length-take-le}
use Rattle.event_core.specs.declared.ids.LockId.{LockId}
use Rattle.wcp_clocks.specs.HeldLists.{numbers_of}
use Rattle.wcp_clocks.proofs.RowsKept.{thread_kept}
use Rattle.wcp_clocks.proofs.TakeLaws.{HasTaken, taken_begins, taken_on}
use Rattle.wcp_clocks.proofs.sources.take_sources.Goals as goal

pub loop-lock-init : goal.loop-lock-init
loop-lock-init c = taken_begins

pub take_under-requires-clause-room : goal.take_under-requires-clause-room
take_under-requires-clause-room c = thread_kept c.loop-lock.invariant.kept _ c.requires.room

pub take_under-requires-clause-wide : goal.take_under-requires-clause-wide
take_under-requires-clause-wide c = c.requires.wide ∙ sym c.loop-lock.invariant.kept.width

pub take_under-requires-clause-few : goal.take_under-requires-clause-few
take_under-requires-clause-few c =
    let i : ℕ = c.loop-lock.lock-index in
    let n : length (numbers_of (take i c.args.held.now)) ≡ length (take i c.args.held.now) =
    length-map (take i c.args.held.now) (λ (l : LockId). l.0) in
    let m = length-take-le i c.args.held.now (let test = c.loop-lock-test.true in omega arith) in
    let test = c.loop-lock-test.true in
    let j = c.loop-lock.invariant.joins in
    let few = c.requires.few in omega arith

pub loop-lock-preserved : goal.loop-lock-preserved
loop-lock-preserved c =
    let l : LockId = get_or c.args.held.now c.loop-lock.lock-index (record { 0 = 0 }) in
    let e = c.take_under.ensures in
    subst (HasTaken _ _ _ _ _ _ _ _ _)
    (sym (map_more (λ (m : LockId). m.0) c.args.held.now c.loop-lock.lock-index
    (record { 0 = 0 }) c.loop-lock-test.true))
    (taken_on (numbers_of (take c.loop-lock.lock-index c.args.held.now)) l.0
    c.loop-lock.invariant e.threads e.locks e.kept e.joins e.joins_exact e.comparisons)
