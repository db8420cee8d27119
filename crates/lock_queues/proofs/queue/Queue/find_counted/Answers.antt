use Rattle.std.proofs.Common.{ap, sym, subst, ◌∙◌, arith, length, ◌<◌}
use Rattle.std.specs.Prelude.{slice_index}
use Rattle.std.proofs.lemmas.List.{get_or_read}
use Rattle.event_core.specs.Rows.{with_row}
use Rattle.hb_clocks.specs.Marks.{MarkedEvent, Covers}
use Rattle.lock_queues.specs.Sections.{acquires_of}
use Rattle.lock_queues.specs.Queue.{OneQueue}
use Rattle.lock_queues.proofs.EntriesProperties.{mark_seen, count_seen}
use Rattle.lock_queues.proofs.IsKeptProperties.{seen_within, found_read, kept_found}
use Rattle.hb_clocks.proofs.ReleasesProperties.{counts_set}
use Rattle.lock_queues.proofs.queue.Queue.find_counted.Goals as goal

pub index-requires : goal.index-requires
index-requires c =
    let lt = seen_within c.args.thread.0 c.self.view_is c.self.invariant c.requires.slot in
    let len = c.self.inside.found.ok.0 in
    omega arith

pub index_mut-requires : goal.index_mut-requires
index_mut-requires c =
    let lt = seen_within c.args.thread.0 c.self.view_is c.self.invariant c.requires.slot in
    let len = c.self.inside.found.ok.0 in
    omega arith

pub search_marks-more-requires-clause-within : goal.search_marks-more-requires-clause-within
search_marks-more-requires-clause-within c =
    let lt = seen_within c.args.thread.0 c.self.view_is c.self.invariant c.requires.slot in
    let is = get_or_read c.self.inside.found.items c.args.thread.0 _ lt c.index.ensures 0 in
    let le = c.self.invariant.within c.args.thread.0 in
    let seen = count_seen _ c.acquires-acquires.ensures in
    omega arith

pub search_marks-more-requires-clause-before : goal.search_marks-more-requires-clause-before
search_marks-more-requires-clause-before c k small =
    let known = found_read c.args.thread.0 _ c.self.view_is c.self.invariant c.requires.slot
    c.index.ensures in
    let are = c.acquires-acquires.ensures ∙ ap (λ (q : OneQueue). acquires_of q.entries) c.self.view_is in
    subst (Covers c.args.clock.now) (sym (mark_seen _ are k)) (c.requires.before k (omega arith))

pub search_marks-more-requires-clause-widths : goal.search_marks-more-requires-clause-widths
search_marks-more-requires-clause-widths c k small =
    let count = count_seen _ c.acquires-acquires.ensures in
    let lt : k < length c.self.inside.entries.entries = omega (arith, count, small) in
    let own = c.self.invariant.marked k lt in
    let wide = c.self.invariant.wide k lt in
    let width = ap (λ (q : OneQueue). q.width) c.self.view_is in
    let clock = c.requires.width in
    let is = ap (λ (m : MarkedEvent). m.thread) (mark_seen _ c.acquires-acquires.ensures k) in
    omega arith

pub returns-clause-counted : goal.returns-clause-counted
returns-clause-counted c k small =
    let are = c.acquires-acquires.ensures ∙ ap (λ (q : OneQueue). acquires_of q.entries) c.self.view_is in
    subst (Covers c.args.clock.now) (mark_seen _ are k) (c.search_marks-more.ensures.counted k small)

pub returns-clause-found : goal.returns-clause-found
returns-clause-found c =
    let lt = seen_within c.args.thread.0 c.self.view_is c.self.invariant c.requires.slot in
    counts_set c.self.inside.found.items c.args.thread.0 c.search_marks-more.result lt
    ∙ ap (λ (k : OneQueue). with_row c.args.thread.0 c.search_marks-more.result (slice_index k.found))
    c.self.view_is

pub returns-clause-most : goal.returns-clause-most
returns-clause-most c =
    let known = found_read c.args.thread.0 _ c.self.view_is c.self.invariant c.requires.slot
    c.index.ensures in
    let work = c.search_marks-more.ensures.most in
    omega arith

pub returns-clause-least : goal.returns-clause-least
returns-clause-least c =
    let known = found_read c.args.thread.0 _ c.self.view_is c.self.invariant c.requires.slot
    c.index.ensures in
    let work = c.search_marks-more.ensures.least in
    omega arith

pub invariant_of-self : goal.invariant_of-self
invariant_of-self c =
    let lt = seen_within c.args.thread.0 c.self.view_is c.self.invariant c.requires.slot in
    let seen = count_seen _ c.acquires-acquires.ensures in
    kept_found c.args.thread.0 c.search_marks-more.result c.self.invariant lt
    (omega (arith, seen, c.search_marks-more.ensures.within))
