-- How counts follow unions of sets and a longer log.
use Rattle.std.proofs.Common.{◌≡◌, ℕ, suc, ◌<◌, ◌≤◌, ◌+◌, max, List, ◌++◌, Bool, true, length, ap, subst}
use Rattle.std.proofs.Common.{◌∙◌, arith, take, cond, ◌⊎◌, ◌↔◌, slice_get, Some, nat_eq, count_by, [], ◌∷◌}
use Rattle.std.proofs.lemmas.Bool.{cases_lt, eq-eqb, eqb-true}
use Rattle.std.proofs.lemmas.List.{take-append-le}
use Rattle.std.proofs.lemmas.List.Sums.{sum_by-append, sum_by-take-le}
use Rattle.std.proofs.Math.Seq.{take-append_seam, take-take, take-length}
use mathlib.Core.Logic.{inl, inr}
use Rattle.event_core.proofs.Words.{ThreadId, Event}
use Rattle.event_core.specs.Log.{Of}
use Rattle.event_core.specs.Count.{events_of, Counts}
use Rattle.event_core.proofs.DepthProperties.{event_at, take_event, count_snoc, count_with, same_thread_id}
use Rattle.event_core.proofs.LatestIndex.{Crossing, crossing, one_up}
use Rattle.event_core.proofs.RelationsStay.{longer, back, of}

-- the set with no event has count 0
pub counts_none : (log : List Event) (u : ThreadId) → Counts log u (λ i. ⊥) 0
counts_none log u = record { within = omega arith; first = λ i o. (λ b. absurd b, λ lt. omega arith) }

-- the greater of two counts is the count of the union
pub counts_union : (log : List Event) (u : ThreadId) (P Q : ℕ → Type 0) (m n : ℕ) → Counts log u P m
    → Counts log u Q n → Counts log u (λ i. P i ⊎ Q i) (max m n)
counts_union log u P Q m n a b = record {
  within = (let x = a.within in omega arith);
  first = λ i o. (
    λ s. elim s [
      | inl p ↦ (let lt = (a.first i o).0 p in omega arith)
      | inr q ↦ (let lt = (b.first i o).0 q in omega arith)
    ],
    λ h. elim (cases_lt (events_of (take i log) u) m) [
      | inl lt ↦ inl ((a.first i o).1 lt)
      | inr ge ↦ inr ((b.first i o).1 (omega arith))
    ],
  );
}

-- the rank of an event is below the thread's number of events
pub rank_below : (log : List Event) (u : ThreadId) (i : ℕ) → Of log i u
    → events_of (take i log) u < events_of log u
unfolding events_of
rank_below log u i o =
    let p : Event → Bool = λ (e : Event). nat_eq e.thread.0 u.0 in
    let one : count_by p (take (suc i) log) ≡ count_by p (take i log) + 1
    = ap (count_by p) (take_event log i o.event o.at) ∙ count_with p (take i log) o.event true
    (eq-eqb o.event.thread.0 u.0 (ap (λ (t : ThreadId). t.0) o.thread)) in
    let le : count_by p (take (suc i) log) ≤ count_by p log
    = sum_by-take-le (λ e. cond (p e) 1 0) log (suc i) in
    omega arith

-- all events of a thread
pub counts_all : (log : List Event) (u : ThreadId) → Counts log u (λ i. Of log i u) (events_of log u)
counts_all log u = record { within = omega arith; first = λ i o. (λ p. rank_below log u i o, λ lt. o) }

-- sets with the same events of a thread have the same count of it
pub counts_same : (log : List Event) (u : ThreadId) (P Q : ℕ → Type 0) (n : ℕ)
    → ((i : ℕ) → Of log i u → P i ↔ Q i) → Counts log u P n → Counts log u Q n
counts_same log u P Q n same a = record {
  within = a.within;
  first = λ i o. (λ q. (a.first i o).0 ((same i o).1 q), λ lt. (same i o).0 ((a.first i o).1 lt));
}

-- in a longer log the same set has the same count
pub counts_longer : (log more : List Event) (u : ThreadId) (P Q : ℕ → Type 0) (n : ℕ)
    → ((i : ℕ) → i < length log → P i ↔ Q i) → ((i : ℕ) → length log ≤ i → Q i → ⊥) → Counts log u P n
    → Counts (log ++ more) u Q n
unfolding events_of
counts_longer log more u P Q n same none a = record {
  within = (
      let x = a.within in
      let h = sum_by-append (λ e. cond (p e) 1 0) log more in
      omega arith);
  first = λ i o. elim (cases_lt i (length log)) [
    | inl lt ↦
        let rank = ap (count_by p) (take-append-le i log more (omega arith)) in
        let was = a.first i (of (back (longer log more)) lt o) in (
          λ q. (let below = was.0 ((same i lt).1 q) in omega arith),
          λ h. (same i lt).0 (was.1 (omega arith)),
        )
    | inr le ↦ (
      λ q. absurd (none i le q),
      λ h. absurd (let x = a.within in let y = past i le in omega arith),
    )
  ];
}
  where
    p : Event → Bool
    p e = nat_eq e.thread.0 u.0

    past : (i : ℕ) → length log ≤ i → count_by p log ≤ count_by p (take i (log ++ more))
    past i le =
        subst (λ xs. count_by p xs ≤ count_by p (take i (log ++ more)))
        (take-take (length log) i (log ++ more) le ∙ take-append_seam log more)
        (sum_by-take-le (λ e. cond (p e) 1 0) (take i (log ++ more)) (length log))

-- the event of a thread at a rank
pub at_rank : (log : List Event) (u : ThreadId) (k n : ℕ) → n ≤ length log → k < events_of (take n log) u
    → (i : ℕ) × Of log i u × (events_of (take i log) u ≡ k)
unfolding events_of
at_rank log u k n le h =
    (p.index, record { event = x.0; at = x.1; thread = same_thread_id (eqb-true _ _ is.0) }, is.1)
  where
    p : Crossing (λ i. events_of (take i log) u) k n
    p = crossing (λ i. events_of (take i log) u) k n (omega arith) h

    x : (e : Event) × (slice_get log p.index ≡ Some e)
    x = event_at log p.index (let b : p.index < n = p.below in omega arith)

    grown : events_of (take (suc p.index) log) u
        ≡ events_of (take p.index log) u + cond (nat_eq x.0.thread.0 u.0) 1 0
    grown =
        ap (λ xs. events_of xs u) (take_event log p.index x.0 x.1)
        ∙ count_snoc (λ (e : Event). nat_eq e.thread.0 u.0) (take p.index log) x.0

    is : (nat_eq x.0.thread.0 u.0 ≡ true) × (events_of (take p.index log) u ≡ k)
    is =
        one_up _ k (nat_eq x.0.thread.0 u.0) p.low
        (subst (λ n. k < n) grown (p.high (suc p.index) (omega arith) p.below))

-- so a set has one count
pub counts_at_most : (log : List Event) (u : ThreadId) (P : ℕ → Type 0) (m n : ℕ) → Counts log u P m
    → Counts log u P n → m ≤ n
counts_at_most log u P m n a b = elim (cases_lt n m) [
  | inr le ↦ le
  | inl lt ↦ absurd (
      let within : m ≤ events_of log u = a.within in
      let whole : events_of (take (length log) log) u ≡ events_of log u
      = ap (λ xs. events_of xs u) (take-length log) in
      let e = at_rank log u n (length log) (omega arith) (omega arith) in
      let again : events_of (take e.0 log) u < n
      = (b.first e.0 e.1).0 ((a.first e.0 e.1).1 (omega arith)) in
      omega arith)
]

-- a set within another has the lower count
pub counts_mono : (log : List Event) (u : ThreadId) (P Q : ℕ → Type 0) (m n : ℕ) → ((i : ℕ) → P i → Q i)
    → Counts log u P m → Counts log u Q n → m ≤ n
counts_mono log u P Q m n sub a b =
    let both : Counts log u Q (max m n)
    = counts_same log u (λ i. P i ⊎ Q i) Q (max m n)
    (λ i o. (λ p. elim p [ inl x ↦ sub i x | inr y ↦ y ], λ q. inr q))
    (counts_union log u P Q m n a b) in
    let le : max m n ≤ n = counts_at_most log u Q (max m n) n both b in
    omega arith

-- and so has a set within another of a longer log
pub counts_grow : (log : List Event) (e : Event) (u : ThreadId) (P Q : ℕ → Type 0) (m n : ℕ)
    → ((i : ℕ) → P i → Q i) → ((i : ℕ) → P i → i < length log) → Counts log u P m
    → Counts (log ++ e ∷ []) u Q n → m ≤ n
counts_grow log e u P Q m n sub within a b =
    counts_mono (log ++ e ∷ []) u (λ i. P i × (i < length log)) Q m n (λ i p. sub i p.0)
    (counts_longer log (e ∷ []) u P (λ i. P i × (i < length log)) m (λ i lt. (λ p. (p, lt), λ p. p.0))
    (λ i le p. omega arith) a) b
