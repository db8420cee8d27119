use Rattle.std.proofs.Common.{ℕ, ◌+◌, length, List, ◌++◌, ◌∷◌, [], ap, ◌∙◌}
use Rattle.std.proofs.lemmas.List.{get_or_default}
use Rattle.event_core.specs.declared.ids.LockId.{LockId}
use Rattle.event_core.specs.Rows.{with_row}
use Rattle.wcp_clocks.specs.HeldLists.{HeldList, nothing_held, numbers_of, held_of}
use Rattle.wcp_clocks.proofs.HeldListsProperties.{room_within, held_set, numbers_added, places_set}
use Rattle.wcp_clocks.proofs.holdings.add_at.Goals as goal

pub returns-clause-held : goal.returns-clause-held
returns-clause-held c =
    let lists : List HeldList = c.args.lists.now in
    let within = room_within lists c.args.at c.requires.room in
    let read = get_or_default lists c.args.at c.index-lists-at.result nothing_held within in
    held_set lists c.args.at c.add.new.self within
    ∙ ap (λ (ns : List ℕ). with_row c.args.at ns (held_of lists))
    (ap (λ (ls : List LockId). numbers_of ls) c.add.ensures.locks ∙ numbers_added _ c.args.lock
    ∙ ap (λ (h : HeldList). numbers_of h.locks ++ c.args.lock.0 ∷ []) read)

pub returns-clause-places : goal.returns-clause-places
returns-clause-places c =
    let lists : List HeldList = c.args.lists.now in
    let within = room_within lists c.args.at c.requires.room in
    let read = get_or_default lists c.args.at c.index-lists-at.result nothing_held within in
    places_set lists c.args.at c.add.new.self within
    (c.add.ensures.places ∙ ap (λ (h : HeldList). length h.locks + h.room) read)
