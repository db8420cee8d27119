use Rattle.std.proofs.Common.{rules, ◌≡◌, ◌≤◌, ◌+◌, ◌*◌, true, false, sym, ap, subst, ◌∙◌, vec_capacity}
use Rattle.std.proofs.Common.{arith}
use Rattle.std.proofs.lemmas.Bool.{eq-eqb, not-true, not-false}
use Rattle.section_sum.specs.Cell.{cell_at, is_noted}
use Rattle.section_sum.specs.LockSums.{LockSum, is_own, IsKept}
use Rattle.section_sum.proofs.CellsProperties.{own_place}
use Rattle.section_sum.proofs.IsKeptProperties.{kept_as, kept_first, kept_again, spare}
use Rattle.section_sum.proofs.lock.Lock.note.Goals as goal

pub push_reserved-requires : goal.push_reserved-requires
push_reserved-requires c =
    let kept = subst (λ (k : LockSum). IsKept c.args.lock.0 c.args.cells.now k) (sym c.self.view_is)
    c.requires.kept in
    let off : is_noted (cell_at c.args.cells.now.cells c.in-Some.at) ≡ false
    = not-true _ (sym c.mark.ensures.first ∙ c.if-mark.true) in
    let s = spare c.args.cells.now c.args.lock.0 c.args.var.0 _ kept c.requires.ready
    (sym (ap (λ i. is_noted (cell_at c.args.cells.now.cells i)) c.in-Some.ensures.0) ∙ off) in
    search (rules, s)

pub returns-then-mark-clause-kept : goal.returns-then-mark-clause-kept
returns-then-mark-clause-kept c =
    let kept = subst (λ (k : LockSum). IsKept c.args.lock.0 c.args.cells.now k) (sym c.self.view_is)
    c.requires.kept in
    let off : is_noted (cell_at c.args.cells.now.cells c.in-Some.at) ≡ false
    = not-true _ (sym c.mark.ensures.first ∙ c.if-mark.true) in
    let own : is_own c.args.lock.0 c.args.cells.now c.in-Some.at ≡ true
    = ap (is_own c.args.lock.0 c.args.cells.now) c.in-Some.ensures.0
    ∙ eq-eqb _ _ (own_place c.args.cells.now.places c.args.lock.0 c.args.var.0 c.requires.ready) in
    let more : vec_capacity c.self.inside.listed ≤ vec_capacity c.push_reserved.new.self = search rules in
    let most : vec_capacity c.push_reserved.new.self ≤ 2 * (c.self.inside.count + 1) =
    let was = kept.memory in let stays = c.push_reserved.ensures.capacity in omega (arith, was, stays) in
    kept_as c.mark.new.self c.args.lock.0 _ c.push_reserved.new.self.items
    (vec_capacity c.push_reserved.new.self)
    c.push_reserved.ensures.items more most
    (kept_first c.args.lock.0 c.in-Some.at c.args.thread.0 c.args.kind c.args.cells.now c.mark.new.self _
    c.in-Some.ensures.1 own off
    (record { places = c.mark.ensures.places; same = c.mark.ensures.same; exact = c.mark.ensures.exact })
    kept)

pub returns-else-mark-clause-kept : goal.returns-else-mark-clause-kept
returns-else-mark-clause-kept c =
    let kept = subst (λ (k : LockSum). IsKept c.args.lock.0 c.args.cells.now k) (sym c.self.view_is)
    c.requires.kept in
    let on = not-false _ (sym c.mark.ensures.first ∙ c.if-mark.false) in
    let own : is_own c.args.lock.0 c.args.cells.now c.in-Some.at ≡ true
    = ap (is_own c.args.lock.0 c.args.cells.now) c.in-Some.ensures.0
    ∙ eq-eqb _ _ (own_place c.args.cells.now.places c.args.lock.0 c.args.var.0 c.requires.ready) in
    kept_again c.args.lock.0 c.in-Some.at c.args.thread.0 c.args.kind c.args.cells.now c.mark.new.self _
    own on
    (record { places = c.mark.ensures.places; same = c.mark.ensures.same; exact = c.mark.ensures.exact })
    kept
