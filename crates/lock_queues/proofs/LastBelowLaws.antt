-- What a search by a clock finds of the sections that stand for a log.
use Rattle.std.proofs.Common.{◌≡◌, ℕ, ◌<◌, ◌≤◌, ◌-◌, List, [], ◌∷◌, ◌++◌, length, refl, sym, ap}
use Rattle.std.proofs.Common.{subst, ◌∙◌, arith, Option, Some, None}
use Rattle.std.specs.Prelude.{IsSomeAnd}
use mathlib.Core.Logic.{inl, inr}
use Rattle.event_core.specs.declared.bounds.Limits.{Limits}
use Rattle.event_core.specs.declared.events.Event.{Event}
use Rattle.event_core.specs.declared.ids.LockId.{LockId}
use Rattle.event_core.specs.declared.ids.ThreadId.{ThreadId}
use Rattle.event_core.specs.Closed.{Closed, Has, ended, number_of, number_counted}
use Rattle.event_core.specs.Count.{events_of, Past}
use Rattle.event_core.specs.Log.{depth, Section}
use Rattle.event_core.specs.Order.{Hb}
use Rattle.event_core.specs.Orderly.{Orderly}
use Rattle.event_core.specs.Refusal.{WellFormed}
use Rattle.event_core.specs.Rows.{with_row, Counted}
use Rattle.event_core.specs.Wcp.{Strict}
use Rattle.event_core.proofs.CountsProperties.{counts_grow}
use Rattle.event_core.proofs.DepthProperties.{same_lock_id, same_thread_id}
use Rattle.event_core.proofs.RowsAfterProperties.{cell_same, cell_other}
use Rattle.event_core.proofs.WellFormedProperties.{well_formed_front}
use Rattle.event_core.proofs.HeldDepths.{cell_cases}
use Rattle.event_core.proofs.OrderlyProperties.{orderly}
use Rattle.event_core.proofs.SectionNumbers.{number_order}
use Rattle.event_core.proofs.ClosedProperties.{counts_acquire, acquire_counted, counted_is, is_counted_of}
use Rattle.event_core.proofs.ClosedProperties.{counted_before, release_order, before_end, before_within}
use Rattle.event_core.proofs.ClosedProperties.{number_most}
use Rattle.lock_queues.specs.Sections.{closed_at, latest_counted}
use Rattle.lock_queues.specs.Queues.{AllQueues, closed_of, opened_of, found_of}
use Rattle.lock_queues.specs.Searched.{CoversEarlier}
use Rattle.lock_queues.specs.Standing.{AreSections, AreOf, StandsFor, CountsEvent, CountsNone, IsLatest}
use Rattle.lock_queues.specs.Laws.{StrictClocksMayAsk, FindingKeepsThem, ReleasesAreAbove}
use Rattle.lock_queues.proofs.LatestCountedProperties.{CoversAt, number_least, counted_first, none_counted}
use Rattle.lock_queues.proofs.LatestCountedProperties.{IsLatestAt, latest_place}
use Rattle.lock_queues.proofs.StandsForProperties.{same_are, holder_has_events}
use Rattle.lock_queues.proofs.AreSectionsProperties.{Entered, entered, has_place, place_within}

module _ (log : List Event) (ord : Orderly log) (t : ThreadId) (c : ℕ → ℕ)
    (counted : Counted log (Past log (Strict log) t) c) (l : LockId) (qs : List Closed)
    (are : AreSections log l qs) where
  -- with a section the clock counts the earlier ones on its lock, place by place
  before : (k m : ℕ) → k ≤ m → m < length qs → CoversAt c qs m → CoversAt c qs k
  before k m le lt h =
      let x = entered log l qs ord are k (omega arith) in
      let y = entered log l qs ord are m lt in
      let up = number_order log l x.release y.release y.thread y.is.section.closed
      (let i = x.number in let j = y.number in omega (arith, i, j, le)) in
      counted_before log t c x.thread y.thread l x.acquire x.release y.acquire y.release (closed_at qs k)
      (closed_at qs m) ord counted x.is y.is up h

  -- of two entries the one with the lower release clock is the earlier one
  pub counts_earlier : CoversEarlier c qs
  counts_earlier p q hp hq le is =
      counted_before log t c x.thread y.thread l x.acquire x.release y.acquire y.release p q ord counted x.is
      y.is
      (release_order log x.thread y.thread l x.acquire x.release y.acquire y.release p q x.is y.is
      (λ w. le w.0)) is
    where
      place : (z : Closed) → Has z qs → (k : ℕ) × Entered log l k z
      place z h =
          let k = has_place z qs h in
          (k.0, subst (λ i. Entered log l k.0 i) k.2 (entered log l qs ord are k.0 k.1))

      x : Entered log l (place p hp).0 p
      x = (place p hp).1

      y : Entered log l (place q hq).0 q
      y = (place q hq).1

  -- what has been found is counted
  pub found_counted : (n : ℕ) → n ≤ ended log l
      → ((u : ThreadId) (a r : ℕ) → Section log u l a r → number_of log l r ≤ n → Past log (Strict log) t a)
      → n ≤ number_counted c qs
  found_counted n most found =
      let count : length qs ≡ ended log l = are.count in
      number_least c qs n (omega (arith, count, most)) (λ k lt.
      (let x = entered log l qs ord are k (omega (arith, count, most, lt)) in
      is_counted_of log (Past log (Strict log) t) c x.thread l x.acquire x.release (closed_at qs k) counted
      x.is (found x.thread x.acquire x.release x.is.section (let i = x.number in omega (arith, i, lt)))))

  -- and what is counted may be found
  pub counted_found : (u : ThreadId) (a r : ℕ) → Section log u l a r
      → number_of log l r ≤ number_counted c qs → Past log (Strict log) t a
  counted_found u a r s le =
      counted_is log (Past log (Strict log) t) c u l a r (closed_at qs (number_of log l r - 1)) counted
      (are.each u a r s) (counted_first c qs before (number_of log l r - 1) (omega (arith, le)))

-- the clock of what strictly precedes a thread's events may ask
pub strict_clocks_may_ask : StrictClocksMayAsk
strict_clocks_may_ask limits log v t l c w counted st =
    let ord = orderly limits log w in (
      found_counted log ord t c counted l (closed_of v l.0) (st.closed_are l) (found_of v l.0 t.0)
          (st.most t l) (st.found_are t l),
      counts_earlier log ord t c counted l (closed_of v l.0) (st.closed_are l),
    )

-- how many sections on the lock the thread has found, as the queues say it of a log
record IsFound (log : List Event) (t : ThreadId) (l : LockId) (n : ℕ) : Type 0 where
  pub are : (u : ThreadId) (a r : ℕ) → Section log u l a r → number_of log l r ≤ n → Past log (Strict log) t a
  pub most : n ≤ ended log l
  pub none : events_of log t ≡ 0 → n ≡ 0

-- what is found by it keeps the meaning
finds : (limits : Limits) (log : List Event) (v : AllQueues) (t : ThreadId) (l : LockId) (c : ℕ → ℕ)
    → WellFormed limits log → Counted log (Past log (Strict log) t) c → 0 < depth log t l → StandsFor log v
    → AreOf log (closed_of v) (opened_of v)
    (with_row l.0 (with_row t.0 (number_counted c (closed_of v l.0)) (found_of v l.0)) (found_of v))
finds limits log v t l c w counted up st = record {
  closed_are = st.closed_are;
  opened_are = st.opened_are;
  found_are = λ u m. (each u m).are;
  most = λ u m. (each u m).most;
  none = λ u m. (each u m).none;
}
  where
    n : ℕ
    n = number_counted c (closed_of v l.0)

    new : ℕ → ℕ → ℕ
    new = with_row l.0 (with_row t.0 n (found_of v l.0)) (found_of v)

    here : IsFound log t l n
    here = record {
      are = counted_found log (orderly limits log w) t c counted l (closed_of v l.0) (st.closed_are l);
      most =
          let few = number_most c (closed_of v l.0) in
          let count = (st.closed_are l).count in omega (arith, few, count);
      none = λ z. absurd (let some = holder_has_events log t l up in omega (arith, some, z));
    }

    each : (u : ThreadId) (m : LockId) → IsFound log u m (new m.0 u.0)
    each u m = elim (cell_cases t u l m) [
      | inl same ↦ subst (λ (z : ThreadId). IsFound log z m (new m.0 z.0)) same.0
          (subst (λ (y : LockId). IsFound log t y (new y.0 t.0)) same.1
          (subst (IsFound log t l) (sym (cell_same l.0 t.0 n (found_of v))) here))
      | inr ne ↦ subst (IsFound log u m) (sym (cell_other l.0 t.0 n (found_of v) m.0 u.0
          (λ q r. ne (same_thread_id (sym r)) (same_lock_id (sym q)))))
          (record { are = st.found_are u m; most = st.most u m; none = st.none u m })
    ]

-- the law: what a search finds keeps what the queues stand for
pub finding_keeps_them : FindingKeepsThem
finding_keeps_them limits log old new t l c w counted up is st =
    same_are is.closed is.opened is.found (finds limits log old t l c w counted up st)

-- the clock of a release is at or above those of the sections on its lock
pub releases_are_above : ReleasesAreAbove
releases_are_above limits log e v l c w is counted st q u h =
    let x = has_place q (closed_of v l.0) h in
    let y = entered log l (closed_of v l.0) (orderly limits log (well_formed_front limits log (e ∷ []) w))
    (st.closed_are l) x.0 x.1 in
    subst (λ z. z.release u ≤ c u) x.2
    (counts_grow log e thread (λ i. Hb log i y.release) (λ i. Hb (log ++ e ∷ []) i (length log))
    ((closed_at (closed_of v l.0) x.0).release u) (c u)
    (λ i b. before_end log e (orderly limits (log ++ e ∷ []) w) l is i y.thread y.acquire y.release
    y.is.section b)
    (λ i b. before_within y.is.section b) (y.is.release thread) (counted thread))
  where
    thread : ThreadId
    thread = record { 0 = u }

-- no section has an acquire that the clock counts
pub none_in_log : (limits : Limits) (log : List Event) (v : AllQueues) (l : LockId) (c : ℕ → ℕ)
    → WellFormed limits log → StandsFor log v → latest_counted c (closed_of v l.0) ≡ None → CountsNone log l c
none_in_log limits log v l c w st none u a r s is =
    none_counted c (closed_of v l.0) none (number_of log l r - 1)
    (place_within log l (closed_of v l.0) (st.closed_are l) u a r s)
    (acquire_counted log c u l a r (closed_at (closed_of v l.0) (number_of log l r - 1))
    ((st.closed_are l).each u a r s) is)

-- or the latest that has one is that of the entry
pub latest_in_log : (limits : Limits) (log : List Event) (v : AllQueues) (l : LockId) (c : ℕ → ℕ)
    (u : ThreadId)
    (clock : ℕ → ℕ) (q : Closed) → WellFormed limits log → StandsFor log v
    → latest_counted c (closed_of v l.0) ≡ Some q → q.thread ≡ u.0 → q.release ≡ clock
    → IsLatest log l c u clock
latest_in_log limits log v l c u clock q w st is thread release = record {
  acquire = x.acquire;
  release = x.release;
  section = subst (λ t. Section log t l x.acquire x.release) same x.is.section;
  counted =
      subst (λ t. CountsEvent log c t x.acquire) same
      (counts_acquire log c x.thread l x.acquire x.release entry x.is p.counted);
  latest = λ t b s y h.
      number_order log l s x.release x.thread x.is.section.closed
      (let place = p.latest (number_of log l s - 1) (place_within log l qs are t b s y)
      (acquire_counted log c t l b s (closed_at qs (number_of log l s - 1)) (are.each t b s y) h) in
      let number = x.number in omega (arith, place, number));
  clock_is =
      subst (λ f. Counted log (λ i. Hb log i x.release) f) (ap (λ (z : Closed). z.release) p.is ∙ release)
      x.is.release;
}
  where
    qs : List Closed
    qs = closed_of v l.0

    are : AreSections log l qs
    are = st.closed_are l

    p : IsLatestAt c qs q
    p = latest_place c qs q is

    entry : Closed
    entry = closed_at qs p.place

    x : Entered log l p.place entry
    x = entered log l qs (orderly limits log w) are p.place p.within

    same : x.thread ≡ u
    same = same_thread_id (sym x.is.thread ∙ ap (λ (z : Closed). z.thread) p.is ∙ thread)

-- the same of what is answered of the entry
pub told_in_log : (limits : Limits) (log : List Event) (v : AllQueues) (l : LockId) (c : ℕ → ℕ) (u : ThreadId)
    (clock : ℕ → ℕ) → WellFormed limits log → StandsFor log v
    → IsSomeAnd (latest_counted c (closed_of v l.0)) (λ q. (q.thread ≡ u.0) × (q.release ≡ clock))
    → IsLatest log l c u clock
told_in_log limits log v l c u clock w st told = go (latest_counted c (closed_of v l.0)) refl told
  where
    go : (o : Option Closed) → latest_counted c (closed_of v l.0) ≡ o
        → IsSomeAnd o (λ q. (q.thread ≡ u.0) × (q.release ≡ clock)) → IsLatest log l c u clock
    go (Some q) is both = latest_in_log limits log v l c u clock q w st is both.0 both.1
    go None is both = absurd both
