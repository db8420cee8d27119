use Rattle.std.proofs.Common.{rules, ℕ, ◌<◌, List, sym, ap, subst, ◌∙◌}
use Rattle.std.proofs.lemmas.List.{with_items_is}
use Rattle.wcp_clocks.specs.HeldLists.{HeldList, nothing_held, numbers_of, held_of, room_at}
use Rattle.wcp_clocks.proofs.holdings.Holdings.grow.Goals as goal

pub returns-clause-same : goal.returns-clause-same
returns-clause-same c =
    ap held_of (with_items_is c.grow_to.new.list c.prepare_at.new.lists
    (c.prepare_at.auto.lists ∙ c.deref_mut.ensures.len))
    ∙ c.prepare_at.ensures.same ∙ ap held_of c.deref_mut.ensures.value
    ∙ (λ i t. ap (λ (h : HeldList). numbers_of h.locks)
    (c.in_ok-grow_to.ensures.same nothing_held (λ g given. search rules) t) i)
    ∙ ap held_of c.self.view_is

pub returns-clause-kept : goal.returns-clause-kept
returns-clause-kept c t some =
    let places = ap (λ (ls : List HeldList). room_at ls t) c.deref_mut.ensures.value
    ∙ ap (λ (h : HeldList). h.room) (c.in_ok-grow_to.ensures.same nothing_held (λ g given. search rules) t)
    ∙ ap (λ (ls : List HeldList). room_at ls t) c.self.view_is in
    subst (λ (ls : List HeldList). 0 < room_at ls t) (sym (with_items_is c.grow_to.new.list
    c.prepare_at.new.lists (c.prepare_at.auto.lists ∙ c.deref_mut.ensures.len)))
    (c.prepare_at.ensures.kept t (subst (λ (n : ℕ). 0 < n) (sym places) some))
