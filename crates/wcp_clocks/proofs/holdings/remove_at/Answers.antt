use Rattle.std.proofs.Common.{ℕ, ◌+◌, length, List, ap, ◌∙◌}
use Rattle.std.proofs.lemmas.List.{get_or_default}
use Rattle.event_core.specs.declared.ids.LockId.{LockId}
use Rattle.event_core.specs.Rows.{with_row}
use Rattle.wcp_clocks.specs.HeldLists.{HeldList, nothing_held, numbers_of, held_of}
use Rattle.wcp_clocks.proofs.HeldListsProperties.{held_set, numbers_without, places_set}
use Rattle.wcp_clocks.proofs.holdings.remove_at.Goals as goal

pub returns-clause-held : goal.returns-clause-held
returns-clause-held c =
    let lists : List HeldList = c.args.lists.now in
    let within = c.if-lists-at.false in
    let read = get_or_default lists c.args.at c.index-lists-at.result nothing_held within in
    held_set lists c.args.at c.remove.new.self within
    ∙ ap (λ (ns : List ℕ). with_row c.args.at ns (held_of lists))
    (ap (λ (ls : List LockId). numbers_of ls) c.remove.ensures.locks
    ∙ ap (λ (h : HeldList). numbers_of (Rattle.wcp_clocks.specs.HeldLists.without_lock c.args.lock h.locks))
    read
    ∙ numbers_without c.args.lock (Rattle.wcp_clocks.specs.HeldLists.list_at lists c.args.at).locks)

pub returns-clause-places : goal.returns-clause-places
returns-clause-places c =
    let lists : List HeldList = c.args.lists.now in
    let within = c.if-lists-at.false in
    let read = get_or_default lists c.args.at c.index-lists-at.result nothing_held within in
    places_set lists c.args.at c.remove.new.self within
    (c.remove.ensures.places ∙ ap (λ (h : HeldList). length h.locks + h.room) read)
