use Rattle.std.proofs.Common.{◌≡◌, ℕ, ◌-◌, ◌<◌, List, ap, sym, subst, ◌∙◌}
use Rattle.std.specs.Prelude.{MatchOption, slice_index}
use Rattle.event_core.specs.Closed.{Closed}
use Rattle.lock_queues.specs.Slots.{has_slot}
use Rattle.lock_queues.specs.Sections.{closed_at, section_of, sections_of, entry_at, AreReadable}
use Rattle.lock_queues.specs.Searched.{IsSection}
use Rattle.lock_queues.specs.Queue.{OneQueue, queue_at}
use Rattle.lock_queues.specs.Queues.{AllQueues, closed_of, found_of}
use Rattle.lock_queues.proofs.SearchedProperties.{entered_read}
use Rattle.lock_queues.proofs.SectionsOfProperties.{section_is}
use Rattle.lock_queues.proofs.queues.Queues.latest.Goals as goal

pub latest-requires-clause-slot : goal.latest-requires-clause-slot
latest-requires-clause-slot c =
    let t = c.args.thread.0 in
    let l = c.args.lock.0 in
    let read = entered_read t l c.self.view_is c.requires.entered c.index.ensures in
    ap (λ (q : OneQueue). has_slot q.slots t) read.is ∙ read.has

pub latest-requires-clause-readable : goal.latest-requires-clause-readable
latest-requires-clause-readable c =
    let t = c.args.thread.0 in
    let l = c.args.lock.0 in
    let read = entered_read t l c.self.view_is c.requires.entered c.index.ensures in
    subst (λ (q : OneQueue). AreReadable c.self.inside.releases.numbers q.entries) (sym read.is)
    (c.self.invariant.readable l)

pub returns : goal.returns
returns c =
    let t = c.args.thread.0 in
    let l = c.args.lock.0 in
    let qs : List OneQueue = c.self.inside.queues.items in
    let ns : List ℕ = c.self.inside.releases.numbers in
    let read = entered_read t l c.self.view_is c.requires.entered c.index.ensures in
    let Tells : ℕ → ℕ → Closed → Type 0
    = λ n w x. MatchOption c.latest.result (n ≡ 0) (λ answer. (0 < n) × IsSection answer w x) in
    let Reads : OneQueue → Type 0
    = λ q. Tells (slice_index q.found t) q.width
    (section_of ns (entry_at q.entries (slice_index q.found t - 1))) in
    let here : Reads (queue_at qs l) = subst Reads read.is c.latest.ensures in
    let n : ℕ = slice_index (queue_at qs l).found t in
    subst (λ (v : AllQueues). Tells (found_of v l t) v.limits.threads (closed_at (closed_of v l)
    (found_of v l t - 1)))
    c.self.view_is
    (subst (λ w. Tells n w (closed_at (sections_of ns (queue_at qs l).entries) (n - 1)))
    (c.self.invariant.wide l read.within)
    (subst (Tells n (queue_at qs l).width) (sym (section_is ns (queue_at qs l).entries (n - 1))) here))
