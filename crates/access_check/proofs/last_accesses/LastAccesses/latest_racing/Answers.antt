use Rattle.std.proofs.Common.{◌≡◌, ◌<◌, ◌∷◌, List, length, sym, ap, subst, ◌∙◌}
use Rattle.std.proofs.lemmas.List.Elements.{All-tail}
use Rattle.access_check.specs.declared.last_accesses.LastAccess.{LastAccess}
use Rattle.access_check.specs.LastAccesses.{LastList, AreNarrow, items_of}
use Rattle.access_check.proofs.last_accesses.LastAccesses.latest_racing.Goals as goal

pub latest_racing-requires : goal.latest_racing-requires
latest_racing-requires g c =
    let rest : List LastAccess = c.self.inside.rest.items in
    let items : c.args.self.now.items ≡ c.in-Some.first ∷ rest
    = sym (ap (λ (s : LastList). s.items) c.self.view_is) ∙ ap (λ f. items_of f rest) c.in-Some.is in
    let width = length (g.T.VectorTime.numbers c.args.clock.now) in
    subst (AreNarrow width) (sym c.deref.ensures.value)
    (All-tail (λ (p : LastAccess). p.thread.0 < width) c.in-Some.first rest
    (subst (AreNarrow width) items c.requires))
