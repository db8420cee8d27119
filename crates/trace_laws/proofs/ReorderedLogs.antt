-- A log and another that has its events in another order: what is so of the one is so of the other.
use Rattle.std.proofs.Common.{◌≡◌, ℕ, suc, ◌<◌, ◌≤◌, List, true, false, refl, sym, ap, subst, ◌∙◌}
use Rattle.std.proofs.Common.{arith, take}
use Rattle.std.proofs.Common.{◌⊎◌, Some, slice_get}
use Rattle.std.proofs.lemmas.Bool.{cases_order, cases_lt}
use mathlib.Core.Logic.{inl, inr}
use Rattle.event_core.specs.declared.ids.ThreadId.{ThreadId}
use Rattle.event_core.specs.declared.ids.LockId.{LockId}
use Rattle.event_core.specs.declared.events.Event.{Event}
use Rattle.event_core.specs.declared.events.Op.{Op}
use Rattle.event_core.specs.declared.events.Op.TheVariants.{Fork, Join}
use Rattle.event_core.specs.Log.{Does, Of, depth}
use Rattle.trace_laws.specs.Exchanges.{Names, MayExchange}
use Rattle.trace_laws.specs.Repeats.{is_access}

-- two events of the log may be exchanged
pub record Apart (log : List Event) (i j : ℕ) : Type 0 where
  pub first : Event
  pub second : Event
  pub at_first : slice_get log i ≡ Some first
  pub at_second : slice_get log j ≡ Some second
  pub may : MayExchange first second

-- the other log has this one's events, event i at (to i), and only events that may be exchanged have changed
-- their order
pub record Reorders (log other : List Event) (to from : ℕ → ℕ) : Type 0 where
  pub events : (i : ℕ) → slice_get other (to i) ≡ slice_get log i
  pub to_from : (k : ℕ) → to (from k) ≡ k
  pub from_to : (i : ℕ) → from (to i) ≡ i
  pub order : (i j : ℕ) → i < j → (to i < to j) ⊎ Apart log i j
  pub before : (i : ℕ) (u : ThreadId) (l : LockId) → Of log i u
      → depth (take (to i) other) u l ≡ depth (take i log) u l
  pub after : (i : ℕ) (u : ThreadId) (l : LockId) → Of log i u
      → depth (take (suc (to i)) other) u l ≡ depth (take (suc i) log) u l

may_flip : {e f : Event} → MayExchange e f → MayExchange f e
may_flip m = record {
  threads = λ e. m.threads (sym e);
  access = elim m.access [ inl a ↦ inr a | inr a ↦ inl a ];
  first = m.second;
  second = m.first;
}

module _ {log other : List Event} {to from : ℕ → ℕ} (r : Reorders log other to from) where
  -- the events, and what they do
  from_at : (k : ℕ) → slice_get log (from k) ≡ slice_get other k
  from_at k = sym (r.events (from k)) ∙ ap (slice_get other) (r.to_from k)

  -- what an event does, it does at its new index
  pub does_to : {i : ℕ} {u : ThreadId} {o : Op} → Does log i u o → Does other (to i) u o
  does_to {i = i} d = record { event = d.event; at = r.events i ∙ d.at; thread = d.thread; does = d.does }

  -- an event is of the same thread at its new index
  pub of_to : {i : ℕ} {u : ThreadId} → Of log i u → Of other (to i) u
  of_to {i = i} d = record { event = d.event; at = r.events i ∙ d.at; thread = d.thread }

  -- what an event of the reordered log does, it does at its old index
  pub does_from : {k : ℕ} {u : ThreadId} {o : Op} → Does other k u o → Does log (from k) u o
  does_from {k = k} d = record { event = d.event; at = from_at k ∙ d.at; thread = d.thread; does = d.does }

  -- an event of the reordered log is of the same thread at its old index
  pub of_from : {k : ℕ} {u : ThreadId} → Of other k u → Of log (from k) u
  of_from {k = k} d = record { event = d.event; at = from_at k ∙ d.at; thread = d.thread }

  apart_to : {i j : ℕ} → Apart log i j → Apart other (to i) (to j)
  apart_to {i = i} {j = j} a = record {
    first = a.first;
    second = a.second;
    at_first = r.events i ∙ a.at_first;
    at_second = r.events j ∙ a.at_second;
    may = a.may;
  }

-- the log has the other's events
pub turned : {log other : List Event} {to from : ℕ → ℕ} → Reorders log other to from
    → Reorders other log from to
turned {log = log} {other = other} {to = to} {from = from} r = record {
  events = from_at r;
  to_from = r.from_to;
  from_to = r.to_from;
  order = order;
  before = λ k u l o.
      sym (r.before (from k) u l (of_from r o))
      ∙ ap (λ n. depth (take n other) u l) (r.to_from k);
  after = λ k u l o.
      sym (r.after (from k) u l (of_from r o))
      ∙ ap (λ n. depth (take (suc n) other) u l) (r.to_from k);
}
  where
    back : (i j : ℕ) → Apart log (from j) (from i) → Apart other i j
    back i j a = record {
      first = a.second;
      second = a.first;
      at_first = sym (from_at r i) ∙ a.at_second;
      at_second = sym (from_at r j) ∙ a.at_first;
      may = may_flip a.may;
    }

    order : (i j : ℕ) → i < j → (from i < from j) ⊎ Apart other i j
    order i j lt = elim (cases_order (from i) (from j)) [
      | inl e ↦ absurd (
          let same : i ≡ j = sym (r.to_from i) ∙ ap to e ∙ r.to_from j in omega (arith, lt, same))
      | inr o ↦ elim o [
        | inl up ↦ inl up
        | inr down ↦ elim (r.order (from j) (from i) down) [
          | inr a ↦ inr (back i j a)
          | inl up ↦ absurd (
              let p = r.to_from i in let q = r.to_from j in omega (arith, lt, up, p, q))
        ]
      ]
    ]

-- one reordering after another
pub twice : {log middle other : List Event} {to from to2 from2 : ℕ → ℕ} → Reorders log middle to from
    → Reorders middle other to2 from2 → Reorders log other (λ i. to2 (to i)) (λ k. from (from2 k))
twice {log = log} {middle = middle} {to = to} {from = from} {to2 = to2} {from2 = from2} r s = record {
  events = λ i. s.events (to i) ∙ r.events i;
  to_from = λ k. ap to2 (r.to_from (from2 k)) ∙ s.to_from k;
  from_to = λ i. ap from (s.from_to (to i)) ∙ r.from_to i;
  order = order;
  before = λ i u l o. s.before (to i) u l (of_to r o) ∙ r.before i u l o;
  after = λ i u l o. s.after (to i) u l (of_to r o) ∙ r.after i u l o;
}
  where
    back : (i j : ℕ) → Apart middle (to i) (to j) → Apart log i j
    back i j a = record {
      first = a.first;
      second = a.second;
      at_first = sym (r.events i) ∙ a.at_first;
      at_second = sym (r.events j) ∙ a.at_second;
      may = a.may;
    }

    order : (i j : ℕ) → i < j → (to2 (to i) < to2 (to j)) ⊎ Apart log i j
    order i j lt = elim (r.order i j lt) [
      | inr a ↦ inr a
      | inl up ↦ elim (s.order (to i) (to j) up) [ inl h ↦ inl h | inr a ↦ inr (back i j a) ]
    ]

-- two events of one thread are not exchanged
threads_apart : {log : List Event} {i j : ℕ} {u : ThreadId} → Of log i u → Of log j u → Apart log i j → ⊥
threads_apart d e a =
    let p : Some d.event ≡ Some a.first = sym d.at ∙ a.at_first in
    let q : Some e.event ≡ Some a.second = sym e.at ∙ a.at_second in
    let x : d.event ≡ a.first = cc in
    let y : e.event ≡ a.second = cc in
    a.may.threads (ap (λ (v : Event). v.thread) (sym x) ∙ d.thread ∙ sym e.thread
    ∙ ap (λ (v : Event). v.thread) y)

-- what two events of the log do, that may be exchanged
ops_apart : {log : List Event} {i j : ℕ} {u v : ThreadId} {o q : Op} → Does log i u o → Does log j v q
    → Apart log i j → ((is_access o ≡ true) ⊎ (is_access q ≡ true)) × (Names v o → ⊥) × (Names u q → ⊥)
ops_apart {u = u} {v = v} {o = o} {q = q} d e a =
    let p : Some d.event ≡ Some a.first = sym d.at ∙ a.at_first in
    let p' : Some e.event ≡ Some a.second = sym e.at ∙ a.at_second in
    let x : a.first ≡ d.event = cc in
    let y : a.second ≡ e.event = cc in
    let first_op : a.first.op ≡ o = ap (λ (z : Event). z.op) x ∙ d.does in
    let second_op : a.second.op ≡ q = ap (λ (z : Event). z.op) y ∙ e.does in
    let first_by : a.first.thread ≡ u = ap (λ (z : Event). z.thread) x ∙ d.thread in
    let second_by : a.second.thread ≡ v = ap (λ (z : Event). z.thread) y ∙ e.thread in (
      elim a.may.access [
        | inl t ↦ inl (subst (λ (z : Op). is_access z ≡ true) first_op t)
        | inr t ↦ inr (subst (λ (z : Op). is_access z ≡ true) second_op t)
      ],
      (λ n. a.may.first (subst (λ (z : ThreadId × Op). Names z.0 z.1)
          (λ i. (sym second_by i, sym first_op i)) n)),
      (λ n. a.may.second (subst (λ (z : ThreadId × Op). Names z.0 z.1)
          (λ i. (sym first_by i, sym second_op i)) n)),
    )

module _ {log other : List Event} {to from : ℕ → ℕ} (r : Reorders log other to from) where
  -- the order of the indices
  lt_to : {i j : ℕ} → (Apart log i j → ⊥) → i < j → to i < to j
  lt_to {i = i} {j = j} never lt = elim (r.order i j lt) [ inl h ↦ h | inr a ↦ absurd (never a) ]

  -- the events of one thread keep their order
  pub thread_lt : {i j : ℕ} {u : ThreadId} → Of log i u → Of log j u → i < j → to i < to j
  thread_lt d e lt = lt_to (threads_apart d e) lt

  -- an event of a thread that is no later than another stays no later
  pub thread_le : {i j : ℕ} {u : ThreadId} → Of log i u → Of log j u → i ≤ j → to i ≤ to j
  thread_le {i = i} {j = j} d e le = elim (cases_lt i j) [
    | inl lt ↦ let up = thread_lt d e lt in omega (arith, up)
    | inr ge ↦ let same : i ≡ j = omega (arith, le, ge) in
        let at : to i ≡ to j = ap to same in omega (arith, at)
  ]

  -- two events that are no accesses keep their order
  pub plain_lt : {i j : ℕ} {u v : ThreadId} {o q : Op} → Does log i u o → Does log j v q → is_access o ≡ false
      → is_access q ≡ false → i < j → to i < to j
  plain_lt d e f g lt = lt_to (λ a. elim (ops_apart d e a).0 [ inl t ↦ cc | inr t ↦ cc ]) lt

  -- a fork of a thread, or a join, and an event of the thread
  pub fork_lt : {i j : ℕ} {u v : ThreadId} → Does log i v (Fork u) → Of log j u → i < j → to i < to j
  fork_lt {j = j} {u = u} d e lt =
      let does : Does log j u e.event.op
      = record { event = e.event; at = e.at; thread = e.thread; does = refl } in
      lt_to (λ a. (ops_apart d does a).1 (inl refl)) lt

  -- an event of a thread stays before the join of the thread
  pub join_lt : {i j : ℕ} {u w : ThreadId} → Of log i u → Does log j w (Join u) → i < j → to i < to j
  join_lt {i = i} {u = u} d e lt =
      let does : Does log i u d.event.op
      = record { event = d.event; at = d.at; thread = d.thread; does = refl } in
      lt_to (λ a. (ops_apart does e a).2 (inr refl)) lt
