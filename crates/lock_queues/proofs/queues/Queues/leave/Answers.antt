use Rattle.std.proofs.Common.{◌≡◌, ℕ, ◌∷◌, ◌++◌, [], false, List, length, ap, ap₂, sym, subst, ◌∙◌, arith}
use Rattle.std.specs.Prelude.{slice_index}
use Rattle.event_core.specs.Closed.{Closed}
use Rattle.event_core.specs.Rows.{with_row}
use Rattle.hb_clocks.specs.Counts.{counts_of}
use Rattle.lock_queues.specs.Sections.{sections_of}
use Rattle.lock_queues.specs.Slots.{has_slot, opened_in}
use Rattle.lock_queues.specs.Searched.{IsAboveAll}
use Rattle.lock_queues.specs.Queue.{OneQueue, queue_at}
use Rattle.lock_queues.specs.Queues.{AllQueues, closed_of, opened_of, found_of, is_ready}
use Rattle.lock_queues.proofs.StandsForProperties.{leave_stands}
use Rattle.lock_queues.proofs.QueueAtProperties.{Read, lifted, lifted_same, lifted_cell}
use Rattle.lock_queues.proofs.SectionsOfProperties.{sections_grown, joined_sections}
use Rattle.lock_queues.proofs.AreKeptProperties.{kept_joined, joined_at, some_made, one_fits}
use Rattle.lock_queues.proofs.SearchedProperties.{entered_read, entered_width, entered_made}
use Rattle.lock_queues.proofs.SameMeaningProperties.{places_set}
use Rattle.lock_queues.proofs.queues.Queues.leave.Goals as goal

pub leave-requires-clause-memory : goal.leave-requires-clause-memory
leave-requires-clause-memory c =
    let l = c.args.lock.0 in
    let t = c.args.thread.0 in
    let read = entered_read t l c.self.view_is c.requires.entered c.index_mut-queue.ensures.value in
    let width = ap (λ (q : OneQueue). q.width) read.is ∙ c.self.invariant.wide l read.within in
    let some = some_made c.self.inside.queues.items c.args.thread.0 l read.within read.has in
    let made = c.self.invariant.slots in
    let fits = one_fits c.self.inside.slots c.self.inside.limits.threads (omega arith) in
    let spare = c.self.invariant.spare in
    omega (arith, width, fits, spare)

pub leave-requires-clause-width : goal.leave-requires-clause-width
leave-requires-clause-width c =
    entered_width c.args.thread.0 c.args.lock.0 c.self.view_is c.self.invariant c.requires.entered
    c.index_mut-queue.ensures.value c.requires.width

pub overflow_sub-self : goal.overflow_sub-self
overflow_sub-self c =
    entered_made c.args.thread.0 c.args.lock.0 c.self.view_is c.self.invariant c.requires.entered
    c.index_mut-queue.ensures.value

-- the queue that is left
queue : (c : goal.After-self-2-1)
    → Read c.self.inside.queues.items c.args.thread.0 c.args.lock.0 c.index_mut-queue.result.now
queue c =
    entered_read c.args.thread.0 c.args.lock.0 c.self.view_is c.requires.entered
    c.index_mut-queue.ensures.value

pub invariant_of-self : goal.invariant_of-self
invariant_of-self c =
    let l = c.args.lock.0 in
    let qs = c.self.inside.queues.items in
    let read = queue c in
    let many = c.leave.ensures.many in
    let same = ap (λ (q : OneQueue). length q.slots) read.is in
    let some = some_made c.self.inside.queues.items c.args.thread.0 l read.within read.has in
    let made = c.self.invariant.slots in
    kept_joined l c.leave.new.self _ c.self.invariant read.within
    (c.leave.ensures.width ∙ ap (λ (q : OneQueue). q.width) read.is)
    (joined_at qs l _ c.leave.new.self read.is (c.self.invariant.wide l read.within) c.leave.ensures.joined)
    (subst (λ (v : AllQueues). IsAboveAll (counts_of c.args.clock.now) (closed_of v l)) (sym c.self.view_is)
    c.requires.above)
    (omega arith) (omega arith) c.leave.ensures.memory

pub returns-clause-closed : goal.returns-clause-closed
returns-clause-closed c =
    let t = c.args.thread.0 in
    let l = c.args.lock.0 in
    let qs : List OneQueue = c.self.inside.queues.items in
    let ns = c.self.inside.releases.numbers in
    let ms = c.leave.new.releases.numbers in
    let read = queue c in
    let left : ℕ → Closed
    = λ n. record { thread = t; position = n; release = counts_of c.args.clock.now } in
    let joins = joined_at qs l _ c.leave.new.self read.is (c.self.invariant.wide l read.within)
    c.leave.ensures.joined in
    let grown : (m : ℕ) → sections_of ms (queue_at qs m).entries ≡ sections_of ns (queue_at qs m).entries
    = λ m. ap (λ xs. sections_of xs (queue_at qs m).entries) joins.kept.numbers
    ∙ sections_grown ns joins.kept.added (queue_at qs m).entries (c.self.invariant.readable m) in
    lifted (λ (q : OneQueue). sections_of ms q.entries) qs l c.leave.new.self read.within
    ∙ ap₂ (with_row l) (joined_sections joins (c.self.invariant.readable l)) (λ i m. grown m i)
    ∙ ap (λ (v : AllQueues). with_row l (closed_of v l ++ left (opened_of v t l) ∷ []) (closed_of v))
    c.self.view_is

pub returns-clause-found : goal.returns-clause-found
returns-clause-found c =
    let f = λ (q : OneQueue). slice_index q.found in
    lifted_same f _ _ c.leave.new.self (queue c).within
    (ap slice_index c.leave.ensures.found ∙ ap f (queue c).is)
    ∙ ap found_of c.self.view_is

pub returns-clause-opened : goal.returns-clause-opened
returns-clause-opened c =
    let t = c.args.thread.0 in
    let l = c.args.lock.0 in
    let here = c.leave.ensures.opened
    ∙ ap (λ (q : OneQueue). with_row {A = ℕ} t 0 (opened_in q.slots)) (queue c).is in
    lifted_cell (λ (q : OneQueue). opened_in q.slots) _ t l c.leave.new.self 0 (queue c).within here
    ∙ ap (λ (v : AllQueues). with_row t (with_row {A = ℕ} l 0 (opened_of v t)) (opened_of v)) c.self.view_is

pub returns-clause-ready : goal.returns-clause-ready
returns-clause-ready c =
    let t = c.args.thread.0 in
    let l = c.args.lock.0 in
    let here = c.leave.ensures.slots ∙ ap (λ (q : OneQueue). with_row t false (has_slot q.slots))
    (queue c).is in
    lifted_cell (λ (q : OneQueue). has_slot q.slots) _ t l c.leave.new.self false (queue c).within here
    ∙ ap (λ (v : AllQueues). with_row t (with_row l false (is_ready v t)) (is_ready v)) c.self.view_is

pub returns-clause-stands : goal.returns-clause-stands
returns-clause-stands c = λ limits log e.
    leave_stands limits log e c.args.self.now c.args.thread c.args.lock (counts_of c.args.clock.now)
    (returns-clause-closed c) (returns-clause-opened c) (returns-clause-found c)

pub returns-clause-places : goal.returns-clause-places
returns-clause-places c =
    let same = c.leave.ensures.reserved ∙ ap (λ (q : OneQueue). q.reserved) (queue c).is in
    rw (← c.self.view_is) (places_set c.self.inside.limits c.self.inside.queues.items c.args.lock.0
    c.leave.new.self (queue c).within same)
