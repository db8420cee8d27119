use Rattle.std.proofs.Common.{◌≡◌, ap, refl, ◌∙◌, arith, length}
use Rattle.std.specs.Prelude.{slice_index}
use Rattle.event_core.specs.Rows.{with_row}
use Rattle.lock_queues.specs.Sections.{sections_of}
use Rattle.lock_queues.specs.Slots.{has_slot, opened_in}
use Rattle.lock_queues.specs.Queue.{OneQueue, queue_at}
use Rattle.lock_queues.specs.Queues.{AllQueues, closed_of, opened_of, found_of, is_ready, counted_of}
use Rattle.hb_clocks.specs.Counts.{counts_of}
use Rattle.lock_queues.proofs.LatestCountedProperties.{counted_first, latest_before}
use Rattle.lock_queues.proofs.QueueAtProperties.{Read, lifted, lifted_same}
use Rattle.lock_queues.proofs.SearchedProperties.{AreOf, are_of, number_found, entered_read, entered_width}
use Rattle.lock_queues.proofs.AreKeptProperties.{kept_set}
use Rattle.lock_queues.proofs.SameMeaningProperties.{places_set}
use Rattle.lock_queues.proofs.queues.Queues.find_counted.Goals as goal

pub find_counted-requires-clause-slot : goal.find_counted-requires-clause-slot
find_counted-requires-clause-slot c =
    let t = c.args.thread.0 in
    let read = entered_read t c.args.lock.0 c.self.view_is c.requires.entered
    c.index_mut-queue.ensures.value in
    ap (λ (q : OneQueue). has_slot q.slots t) read.is ∙ read.has

pub find_counted-requires-clause-width : goal.find_counted-requires-clause-width
find_counted-requires-clause-width c =
    entered_width c.args.thread.0 c.args.lock.0 c.self.view_is c.self.invariant c.requires.entered
    c.index_mut-queue.ensures.value c.requires.width

pub find_counted-requires-clause-before : goal.find_counted-requires-clause-before
find_counted-requires-clause-before c k lt =
    let t = c.args.thread.0 in
    let l = c.args.lock.0 in
    let clock = c.args.clock.now in
    let read = entered_read t l c.self.view_is c.requires.entered c.index_mut-queue.ensures.value in
    let are = are_of l clock _ c.self.view_is c.self.invariant read.is c.requires.earlier in
    let le = c.requires.before in
    let found = ap (λ (q : OneQueue). slice_index q.found t) read.is
    ∙ ap (λ (v : AllQueues). found_of v l t) c.self.view_is in
    (are.counts k).0 (counted_first (counts_of clock) (closed_of c.args.self.now l) are.before k
    (omega arith))

-- the queue, its sections, how many of them the thread had found, and how many the search has found
queue : (c : goal.After-self-1)
    → Read c.self.inside.queues.items c.args.thread.0 c.args.lock.0 c.index_mut-queue.result.now
queue c =
    entered_read c.args.thread.0 c.args.lock.0 c.self.view_is c.requires.entered
    c.index_mut-queue.ensures.value

sections : (c : goal.After-self-1)
    → AreOf c.args.self.now c.args.lock.0 c.args.clock.now c.index_mut-queue.result.now
sections c =
    are_of c.args.lock.0 c.args.clock.now _ c.self.view_is c.self.invariant (queue c).is c.requires.earlier

found_before : (c : goal.After-self-1) → slice_index c.index_mut-queue.result.now.found c.args.thread.0
    ≡ found_of c.args.self.now c.args.lock.0 c.args.thread.0
found_before c =
    ap (λ (q : OneQueue). slice_index q.found c.args.thread.0) (queue c).is
    ∙ ap (λ (v : AllQueues). found_of v c.args.lock.0 c.args.thread.0) c.self.view_is

found_now : (c : goal.After-self-1)
    → c.find_counted.result ≡ counted_of c.args.self.now c.args.lock.0 c.args.clock.now
found_now c =
    number_found c.find_counted.result (sections c) c.find_counted.ensures.within
    c.find_counted.ensures.counted c.find_counted.ensures.stopped

pub invariant_of-self : goal.invariant_of-self
invariant_of-self c =
    let many = ap length c.find_counted.ensures.slots in
    kept_set c.args.lock.0 c.find_counted.new.self c.self.inside.slots c.self.invariant (queue c).within
    c.index_mut-queue.ensures.value c.find_counted.ensures.width c.find_counted.ensures.entries (omega arith)
    c.self.invariant.spare

pub returns-clause-found : goal.returns-clause-found
returns-clause-found c =
    let t = c.args.thread.0 in
    let l = c.args.lock.0 in
    let qs = c.self.inside.queues.items in
    let ns = c.self.inside.releases.numbers in
    let read = queue c in
    let new = c.find_counted.new.self in
    let n = counted_of c.args.self.now l c.args.clock.now in
    let found = c.find_counted.ensures.found
    ∙ ap (λ (q : OneQueue). with_row t c.find_counted.result (slice_index q.found)) read.is
    ∙ ap (λ n. with_row t n (slice_index (queue_at qs l).found)) (found_now c) in
    let slots = c.find_counted.ensures.slots ∙ ap (λ (q : OneQueue). q.slots) read.is in
    let opened = lifted_same (λ (q : OneQueue). opened_in q.slots) qs l new read.within
    (ap opened_in slots) in
    let ready = lifted_same (λ (q : OneQueue). has_slot q.slots) qs l new read.within (ap has_slot slots) in
    record {
      found =
          lifted (λ (q : OneQueue). slice_index q.found) qs l new read.within
          ∙ ap (λ f. with_row l f (λ m. slice_index (queue_at qs m).found)) found
          ∙ ap (λ (v : AllQueues). with_row l (with_row t n (found_of v l)) (found_of v)) c.self.view_is;
      closed =
          lifted_same (λ (q : OneQueue). sections_of ns q.entries) qs l new read.within
          (ap (sections_of ns) (c.find_counted.ensures.entries ∙ ap (λ (q : OneQueue). q.entries) read.is))
          ∙ ap closed_of c.self.view_is;
      opened = (λ i u m. opened i m u) ∙ ap opened_of c.self.view_is;
      ready = (λ i u m. ready i m u) ∙ ap is_ready c.self.view_is;
      limits = ap (λ (v : AllQueues). v.limits) c.self.view_is;
    }

pub returns-clause-latest : goal.returns-clause-latest
returns-clause-latest c =
    latest_before (counts_of c.args.clock.now) (closed_of c.args.self.now c.args.lock.0) (sections c).before
    (sections c).rising

pub returns-clause-comparisons : goal.returns-clause-comparisons
returns-clause-comparisons c =
    let before = found_before c in
    let now = found_now c in
    let work = c.find_counted.ensures.most in
    omega arith

pub returns-clause-no_fewer : goal.returns-clause-no_fewer
returns-clause-no_fewer c =
    let before = found_before c in
    let now = found_now c in
    let work = c.find_counted.ensures.least in
    omega arith

pub returns-clause-memory : goal.returns-clause-memory
returns-clause-memory c =
    let same = c.find_counted.ensures.reserved ∙ ap (λ (q : OneQueue). q.reserved) (queue c).is in
    rw (← c.self.view_is) (record {
      places = places_set c.self.inside.limits c.self.inside.queues.items c.args.lock.0
          c.find_counted.new.self (queue c).within same;
      numbers = refl;
    })
