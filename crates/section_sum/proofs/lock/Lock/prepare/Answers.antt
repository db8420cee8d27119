use Rattle.std.proofs.Common.{rules, ◌≡◌, ◌≤◌, ◌+◌, ◌*◌, length, sym, subst, inr, vec_capacity, Some, arith}
use Rattle.section_sum.specs.Cells.{Stored, cell_place}
use Rattle.section_sum.specs.LockSums.{LockSum, IsKept}
use Rattle.section_sum.proofs.CellsProperties.{place_high}
use Rattle.section_sum.proofs.IsKeptProperties.{kept_as, kept_new, has_place}
use Rattle.section_sum.proofs.lock.Lock.prepare.Goals as goal

pub add-requires : goal.add-requires
add-requires c = record { new = place_high _ _ _ c.in_default-find.ensures }

pub returns-clause-kept : goal.returns-clause-kept
returns-clause-kept c =
    let places = c.args.cells.now.places in
    let none : cell_place places c.args.lock.0 c.args.var.0 ≡ length places
    = place_high _ _ _ c.in_default-find.ensures in
    let kept = subst (λ (k : LockSum). IsKept c.args.lock.0 c.args.cells.now k) (sym c.self.view_is)
    c.requires.kept in
    let ready : c.self.inside.count + 1 ≤ vec_capacity c.reserve_to.new.list = search rules in
    let more : vec_capacity c.self.inside.listed ≤ vec_capacity c.reserve_to.new.list = search rules in
    let most : vec_capacity c.reserve_to.new.list ≤ 2 * (c.self.inside.count + 1) =
    let was = kept.memory in let grew = c.reserve_to.ensures.most in omega (arith, was, grew) in
    subst (λ (s : Stored). IsKept c.args.lock.0 s (record {
      by = c.self.inside.by.0;
      count = c.self.inside.count + 1;
      listed = c.reserve_to.new.list.items;
      most = vec_capacity c.reserve_to.new.list;
      sought = Some (record { var = c.args.var.0; at = c.in_ok-at.at });
    })) (sym c.in_ok-at.ensures.1)
    (kept_new c.args.cells.now c.args.lock.0 c.args.var.0 c.in_ok-at.at _ (vec_capacity c.reserve_to.new.list)
    none c.in_ok-at.ensures.0 ready (omega (arith, most))
    (kept_as c.args.cells.now c.args.lock.0 _ c.reserve_to.new.list.items (vec_capacity c.reserve_to.new.list)
    c.reserve_to.ensures.same more most kept))

pub returns-clause-grown : goal.returns-clause-grown
returns-clause-grown c = inr (place_high _ _ _ c.in_default-find.ensures, c.in_ok-at.ensures.1)

pub returns-clause-ready : goal.returns-clause-ready
returns-clause-ready c =
    sym (has_place c.args.cells.now c.add.new.self c.args.lock.0 c.args.var.0
    (place_high _ _ _ c.in_default-find.ensures) c.in_ok-at.ensures.1)
