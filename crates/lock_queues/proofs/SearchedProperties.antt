-- What a search of a lock's sections finds, by the queue and the numbers that the tables have.
use Rattle.std.proofs.Common.{◌≡◌, ℕ, ◌<◌, ◌≤◌, true, List, length, get_or, ap, sym, subst, ◌∙◌, ◌↔◌, arith}
use Rattle.std.proofs.lemmas.Bool.{leb-true, le-leb}
use Rattle.std.proofs.lemmas.List.{get_or_read}
use Rattle.event_core.specs.Bounds.{Bounds}
use Rattle.event_core.specs.Closed.{is_counted, number_counted}
use Rattle.hb_clocks.specs.Counts.{counts_of}
use Rattle.lock_queues.specs.Sections.{closed_at, section_of, entry_at, CoversEntry, AreRising}
use Rattle.lock_queues.specs.Searched.{CoversEarlier}
use Rattle.lock_queues.specs.Queue.{OneQueue, queue_at, no_queue}
use Rattle.lock_queues.specs.Queues.{AllQueues, AreKept, closed_of, opened_of, is_ready}
use Rattle.lock_queues.proofs.LatestCountedProperties.{CoversAt, CoversBefore, counts_before, number_is}
use Rattle.lock_queues.proofs.QueueAtProperties.{Read, known, read_entered, read_ready}
use Rattle.lock_queues.proofs.AreKeptProperties.{some_made}
use Rattle.lock_queues.proofs.SectionsOfProperties.{section_is, count_of}

-- the tables as a view of their parts
abbrev pub tables : Bounds → List OneQueue → List ℕ → ℕ → ℕ → AllQueues
tables b qs ns r m = record { limits = b; queues = qs; numbers = ns; queue_room = r; number_room = m }

-- the lock's sections, which are those of the queue
pub record AreOf (v : AllQueues) (l : ℕ) (clock : List ℕ) (q : OneQueue) : Type 0 where
  pub rising : AreRising (closed_of v l)
  pub before : CoversBefore (counts_of clock) (closed_of v l)
  pub counts : (k : ℕ) → CoversAt (counts_of clock) (closed_of v l) k ↔ CoversEntry q.entries clock k
  pub count : length (closed_of v l) ≡ length q.entries

-- the sections of a lock, for a clock that counts the earlier ones, are those of its queue
pub are_of : {v : AllQueues} {b : Bounds} {qs : List OneQueue} {ns : List ℕ} {w made most r m : ℕ} (l : ℕ)
    (clock : List ℕ) (q : OneQueue) → tables b qs ns r m ≡ v → AreKept w qs ns made most → q ≡ queue_at qs l
    → CoversEarlier (counts_of clock) (closed_of v l) → AreOf v l clock q
are_of {v = v} {qs = qs} {ns = ns} l clock q is kept read earlier =
    let rising : AreRising (closed_of v l)
    = subst (λ (u : AllQueues). AreRising (closed_of u l)) is (kept.rising l) in
    let entries = ap (λ (x : OneQueue). x.entries) (sym read) in
    let at : (k : ℕ) → closed_at (closed_of v l) k ≡ section_of ns (entry_at q.entries k)
    = λ k. ap (λ (u : AllQueues). closed_at (closed_of u l) k) (sym is)
    ∙ section_is ns (queue_at qs l).entries k ∙ ap (λ es. section_of ns (entry_at es k)) entries in
    record {
      rising = rising;
      before = counts_before (counts_of clock) (closed_of v l) rising earlier;
      counts = λ k. (
        λ h. leb-true (entry_at q.entries k).acquire.position
            (counts_of clock (entry_at q.entries k).acquire.thread)
            (sym (ap (is_counted (counts_of clock)) (at k)) ∙ h),
        λ h. ap (is_counted (counts_of clock)) (at k)
            ∙ le-leb (entry_at q.entries k).acquire.position
            (counts_of clock (entry_at q.entries k).acquire.thread) h,
      );
      count = ap (λ (u : AllQueues). length (closed_of u l)) (sym is) ∙ count_of ns (queue_at qs l).entries
          ∙ ap length entries;
    }

-- a search that stops at n has found the counted ones
pub number_found : {v : AllQueues} {l : ℕ} {clock : List ℕ} {q : OneQueue} (n : ℕ) → AreOf v l clock q
    → n ≤ length q.entries → ((k : ℕ) → k < n → CoversEntry q.entries clock k)
    → (n < length q.entries → CoversEntry q.entries clock n → ⊥)
    → n ≡ number_counted (counts_of clock) (closed_of v l)
number_found {v = v} {l = l} {clock = clock} n are le counted stopped =
    let count = are.count in
    sym (number_is (counts_of clock) (closed_of v l) n (omega arith) (λ k lt. (are.counts k).1 (counted k lt))
    (λ lt is. stopped (omega arith) ((are.counts n).0 is)) are.before)

-- the queue of a lock with so many sections, as a read gives it
pub queue_read : {v : AllQueues} {b : Bounds} {qs : List OneQueue} {ns : List ℕ} {q : OneQueue} {r m : ℕ}
    (l n : ℕ) → tables b qs ns r m ≡ v → 0 < n → n ≤ length (closed_of v l) → q ≡ get_or qs l q
    → q ≡ queue_at qs l
queue_read {qs = qs} {ns = ns} {q = q} l n is some within read =
    let same = ap (λ (u : AllQueues). length (closed_of u l)) is in
    let count = count_of ns (queue_at qs l).entries in
    get_or_read qs l q (known (λ (k : OneQueue). 0 < length k.entries) qs l (λ none. omega arith)
    (omega arith))
    read no_queue

-- a section of the queue, as a read gives it
pub section_read : {v : AllQueues} {b : Bounds} {qs : List OneQueue} {ns : List ℕ} {q : OneQueue} {r m : ℕ}
    (l k : ℕ) → tables b qs ns r m ≡ v → q ≡ queue_at qs l
    → section_of ns (entry_at q.entries k) ≡ closed_at (closed_of v l) k
section_read {qs = qs} {ns = ns} l k is read =
    ap (λ (x : OneQueue). section_of ns (entry_at x.entries k)) read
    ∙ sym (section_is ns (queue_at qs l).entries k) ∙ ap (λ (u : AllQueues). closed_at (closed_of u l) k) is

-- the queue of a lock that the thread has entered, as a read gives it
pub entered_read : {v : AllQueues} {b : Bounds} {qs : List OneQueue} {ns : List ℕ} {q : OneQueue} {r m : ℕ}
    (t l : ℕ)
    → tables b qs ns r m ≡ v → 0 < opened_of v t l → q ≡ get_or qs l q → Read qs t l q
entered_read {qs = qs} {q = q} t l is entered read =
    read_entered qs t l q (subst (λ (u : AllQueues). 0 < opened_of u t l) (sym is) entered) read

-- and of one that is ready for it
pub ready_read : {v : AllQueues} {b : Bounds} {qs : List OneQueue} {ns : List ℕ} {q : OneQueue} {r m : ℕ}
    (t l : ℕ)
    → tables b qs ns r m ≡ v → is_ready v t l ≡ true → q ≡ get_or qs l q → Read qs t l q
ready_read {qs = qs} {q = q} t l is ready read =
    read_ready qs t l q (ap (λ (u : AllQueues). is_ready u t l) is ∙ ready) read

-- an entered one has the width of all, and a slot
module _ {v : AllQueues} {b : Bounds} {qs : List OneQueue} {ns : List ℕ} {made most r m : ℕ} {q : OneQueue}
    (t l : ℕ)
    (is : tables b qs ns r m ≡ v) (kept : AreKept b.threads qs ns made most) (entered : 0 < opened_of v t l)
    (read : q ≡ get_or qs l q) where
  found : Read qs t l q
  found = entered_read t l is entered read

  -- a lock with an open section has a queue of the width of all
  pub entered_width : {n : ℕ} → n ≡ v.limits.threads → n ≡ q.width
  entered_width wide =
      wide ∙ sym (ap (λ (k : OneQueue). k.width) found.is ∙ kept.wide l found.within
      ∙ ap (λ (u : AllQueues). u.limits.threads) is)

  -- where a thread has entered, a slot was made
  pub entered_made : 0 < made
  entered_made = subst (λ n. 0 < n) (sym kept.slots) (some_made qs t l found.within found.has)
