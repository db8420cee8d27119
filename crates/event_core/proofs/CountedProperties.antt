-- Clocks that count sets, as a whole.
use Rattle.std.proofs.Common.{◌≡◌, ℕ, ◌<◌, ◌+◌, List, [], ◌∷◌, ◌++◌, Bool, true, false, length, refl}
use Rattle.std.proofs.Common.{sym, ap, subst, ◌∙◌, arith, cond, take, ◌⊎◌, nat_eq, length-append}
use Rattle.std.proofs.lemmas.Bool.{cases_lt, cases_eq, eq-eqb, ne_eqb}
use Rattle.std.proofs.lemmas.Option.{slice_get_within}
use mathlib.Core.Logic.{inl, inr}
use Rattle.event_core.proofs.Words.{ThreadId, Event, Op}
use Rattle.event_core.specs.Log.{Does, Of}
use Rattle.event_core.specs.Count.{events_of, Counts}
use Rattle.event_core.specs.Rows.{join, no_clock, bump, Counted}
use Rattle.event_core.proofs.DepthProperties.{count_snoc, count_with, same_thread_id, thread_cases}
use Rattle.event_core.proofs.Places.{get_last}
use Rattle.event_core.proofs.LogProperties.{of_one, does_op}
use Rattle.event_core.proofs.RelationsStay.{longer, back, of}
use Rattle.event_core.proofs.CountsProperties.{counts_none, counts_union, counts_all, counts_same}
use Rattle.event_core.proofs.CountsProperties.{counts_longer, rank_below}

-- a number is equal to itself
pub nat_eq_same : (n : ℕ) → nat_eq n n ≡ true
nat_eq_same n = eq-eqb n n refl

-- different numbers are not equal
pub nat_eq_other : (m n : ℕ) → (m ≡ n → ⊥) → nat_eq m n ≡ false
nat_eq_other m n ne = ne_eqb m n ne

-- the clock of zeros counts the set with no event
pub counted_none : (log : List Event) (P : ℕ → Type 0) → ((i : ℕ) → P i → ⊥) → Counted log P no_clock
counted_none log P none u =
    counts_same log u (λ i. ⊥) P 0 (λ i o. (λ b. absurd b, λ p. none i p)) (counts_none log u)

-- the join of two clocks counts the union of their sets
pub counted_join : (log : List Event) (P Q : ℕ → Type 0) (f g : ℕ → ℕ) → Counted log P f → Counted log Q g
    → Counted log (λ i. P i ⊎ Q i) (join f g)
counted_join log P Q f g a b u = counts_union log u P Q (f u.0) (g u.0) (a u) (b u)

-- a clock counts each set that has the same events
pub counted_same : (log : List Event) (P Q : ℕ → Type 0) (f : ℕ → ℕ) → ((i : ℕ) → P i → Q i)
    → ((i : ℕ) → Q i → P i) → Counted log P f → Counted log Q f
counted_same log P Q f to from a u = counts_same log u P Q (f u.0) (λ i o. (to i, from i)) (a u)

-- in a longer log the same set has the same clock
pub counted_longer : (log : List Event) (e : Event) (P Q : ℕ → Type 0) (f : ℕ → ℕ)
    → ((i : ℕ) → P i → Q i) → ((i : ℕ) → i < length log → Q i → P i) → ((i : ℕ) → Q i → i < length log)
    → Counted log P f → Counted (log ++ e ∷ []) Q f
counted_longer log e P Q f to from within a u =
    counts_longer log (e ∷ []) u P Q (f u.0) (λ i lt. (to i, from i lt))
    (λ i le q. let lt : i < length log = within i q in omega arith) (a u)

-- a log with one more event is longer by one
pub grown_length : (log : List Event) (e : Event) → length (log ++ e ∷ []) ≡ length log + 1
grown_length log e = length-append log (e ∷ [])

-- the last event is its thread's
pub last_of : (log : List Event) (e : Event) → Of (log ++ e ∷ []) (length log) e.thread
last_of log e = record { event = e; at = get_last log e; thread = refl }

-- the last event performs its own operation
pub last_does : (log : List Event) (e : Event) → Does (log ++ e ∷ []) (length log) e.thread e.op
last_does log e = record { event = e; at = get_last log e; thread = refl; does = refl }

-- the same for the operation under another name
pub last_as : (log : List Event) (e : Event) {p : Op} → e.op ≡ p
    → Does (log ++ e ∷ []) (length log) e.thread p
last_as log e o = record { event = e; at = get_last log e; thread = refl; does = o }

-- an index is of the old log or the last
pub is_last : (log : List Event) (e : Event) (i : ℕ) (u : ThreadId) → Of (log ++ e ∷ []) i u
    → (i < length log) ⊎ (i ≡ length log)
is_last log e i u o = elim (cases_lt i (length log)) [
  | inl lt ↦ inl lt
  | inr ge ↦ inr (
      let h : i < length (log ++ e ∷ []) = slice_get_within (log ++ e ∷ []) i o.event o.at in
      let g = grown_length log e in
      omega arith)
]

-- an event at the last index is by the thread of the last event
pub last_thread : (log : List Event) (e : Event) (i : ℕ) (u : ThreadId) → i ≡ length log
    → Of (log ++ e ∷ []) i u → e.thread ≡ u
last_thread log e i u is o = of_one (last_of log e) (subst (λ k. Of (log ++ e ∷ []) k u) is o)

-- an event at the last index has the operation of the last event
pub last_op : (log : List Event) (e : Event) (i : ℕ) (u : ThreadId) (p : Op) → i ≡ length log
    → Does (log ++ e ∷ []) i u p → e.op ≡ p
last_op log e i u p is d = does_op (last_does log e) (subst (λ k. Does (log ++ e ∷ []) k u p) is d)

-- one more event adds one to its own thread's number of events, and nothing to another's
pub events_grow : (log : List Event) (e : Event) (u : ThreadId)
    → events_of (log ++ e ∷ []) u ≡ events_of log u + cond (nat_eq e.thread.0 u.0) 1 0
unfolding events_of
events_grow log e u = count_snoc (λ (x : Event). nat_eq x.thread.0 u.0) log e

-- the thread of one more event has one event more
pub events_own : (log : List Event) (e : Event)
    → events_of (log ++ e ∷ []) e.thread ≡ events_of log e.thread + 1
unfolding events_of
events_own log e =
    count_with (λ (x : Event). nat_eq x.thread.0 e.thread.0) log e true (nat_eq_same e.thread.0)

-- each other thread has as many events as before
pub events_other : (log : List Event) (e : Event) (u : ThreadId) → (e.thread ≡ u → ⊥)
    → events_of (log ++ e ∷ []) u ≡ events_of log u
unfolding events_of
events_other log e u ne =
    let h = count_with (λ (x : Event). nat_eq x.thread.0 u.0) log e false
    (ne_eqb e.thread.0 u.0 (λ q. ne (same_thread_id q))) in
    omega arith

-- a set that the last event joins, and that has all of its thread's events
pub counts_bump : (log : List Event) (e : Event) (u : ThreadId) (P Q : ℕ → Type 0) (n : ℕ)
    → ((i : ℕ) → P i → Q i) → ((i : ℕ) → i < length log → Q i → P i) → Q (length log)
    → (e.thread ≡ u → n ≡ events_of log u) → Counts log u P n
    → Counts (log ++ e ∷ []) u Q (n + cond (nat_eq e.thread.0 u.0) 1 0)
counts_bump log e u P Q n to from last all a = elim (thread_cases e.thread u) [
  | inl same ↦
      subst (λ k. Counts new u Q k)
      (events_grow log e u ∙ ap (λ k. k + cond {A = ℕ} (nat_eq e.thread.0 u.0) 1 0) (sym (all same)))
      (counts_same new u (λ i. Of new i u) Q (events_of new u)
      (λ i o. (λ p. has same i o (is_last log e i u o), λ q. o)) (counts_all new u))
  | inr other ↦
      subst (λ k. Counts new u Q k) (
      let none = ap (λ (b : Bool). cond {A = ℕ} b 1 0)
      (ne_eqb e.thread.0 u.0 (λ q. other (same_thread_id q))) in
      omega arith)
      (counts_same new u (λ i. Q i × (i < length log)) Q n (λ i o. (λ p. p.0, λ q. (q, old other i o)))
      (counts_longer log (e ∷ []) u P (λ i. Q i × (i < length log)) n
      (λ i lt. (λ p. (to i p, lt), λ q. from i lt q.0))
      (λ i le q. omega arith) a))
]
  where
    new : List Event
    new = log ++ e ∷ []

    has : e.thread ≡ u → (i : ℕ) → Of new i u → (i < length log) ⊎ (i ≡ length log) → Q i
    has same i o (inr is) = subst Q (sym is) last
    has same i o (inl lt) =
        let o' = of (back (longer log (e ∷ []))) lt o in
        to i ((a.first i o').1
        (subst (λ k. events_of (take i log) u < k) (sym (all same)) (rank_below log u i o')))

    old : (e.thread ≡ u → ⊥) → (i : ℕ) → Of new i u → i < length log
    old other i o = elim (is_last log e i u o) [
      | inl lt ↦ lt
      | inr is ↦ absurd (other (last_thread log e i u is o))
    ]

bumped : (t : ℕ) (f : ℕ → ℕ) (u : ℕ) → f u + cond (nat_eq t u) 1 0 ≡ bump t f u
bumped t f u = elim (cases_eq t u) [
  | inl e ↦ rw (eq-eqb t u e, eq-eqb u t (sym e)) refl
  | inr n ↦ rw (ne_eqb t u n, ne_eqb u t (λ q. n (sym q))) (omega arith)
]

-- with its own event added, the clock counts the set that has this event too
pub counted_bump : (log : List Event) (e : Event) (P Q : ℕ → Type 0) (f : ℕ → ℕ)
    → ((i : ℕ) → P i → Q i) → ((i : ℕ) → i < length log → Q i → P i) → Q (length log)
    → f e.thread.0 ≡ events_of log e.thread → Counted log P f → Counted (log ++ e ∷ []) Q (bump e.thread.0 f)
counted_bump log e P Q f to from last all a u =
    subst (λ n. Counts (log ++ e ∷ []) u Q n) (bumped e.thread.0 f u.0)
    (counts_bump log e u P Q (f u.0) to from last
    (λ q. subst (λ (v : ThreadId). f v.0 ≡ events_of log v) q all) (a u))
