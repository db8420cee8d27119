use Rattle.std.proofs.Common.{rules, ◌≡◌, ◌++◌, ◌∷◌, [], length, sym, ap, ◌∙◌, arith, if◌then◌else◌}
use Rattle.std.proofs.lemmas.List.{length_push}
use Rattle.section_sum.specs.Cells.{Stored, place, cell_place}
use Rattle.section_sum.proofs.CellsProperties.{absent}
use Rattle.section_sum.proofs.cells.Cells.add.Goals as goal

pub invariant_of-self-2 : goal.invariant_of-self-2
invariant_of-self-2 c =
    let keys = c.self.inside.places.keys in
    let new = place c.args.lock.0 c.args.var.0 in
    let none = absent keys c.args.lock.0 c.args.var.0
    (ap (λ (s : Stored). cell_place s.places c.args.lock.0 c.args.var.0) c.self.view_is ∙ c.requires.new
    ∙ sym (ap (λ (s : Stored). length s.places) c.self.view_is)) in
    let grew : c.insert.new.self.keys ≡ keys ++ new ∷ []
    = c.in_ok-insert.ensures.keys ∙ ap (λ b. if b then keys else keys ++ new ∷ []) none in
    let long = ap length grew ∙ length_push keys new in
    let was = c.self.invariant in
    let pushed = ap length c.push_reserved.ensures.items ∙ length_push _ _ in
    let kept = ap length c.reserve.ensures.same in
    let most = c.reserve.ensures.most in
    let stays = c.push_reserved.ensures.capacity in
    (omega (arith, long, was.0, pushed, kept), omega (arith, was.1, pushed, kept, most, stays))

pub returns : goal.returns
returns c =
    let keys = c.self.inside.places.keys in
    let new = place c.args.lock.0 c.args.var.0 in
    let none = absent keys c.args.lock.0 c.args.var.0
    (ap (λ (s : Stored). cell_place s.places c.args.lock.0 c.args.var.0) c.self.view_is ∙ c.requires.new
    ∙ sym (ap (λ (s : Stored). length s.places) c.self.view_is)) in
    let grew : c.insert.new.self.keys ≡ keys ++ new ∷ []
    = c.in_ok-insert.ensures.keys ∙ ap (λ b. if b then keys else keys ++ new ∷ []) none in
    search (rules, grew)
