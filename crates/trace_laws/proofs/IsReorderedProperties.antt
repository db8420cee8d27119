-- Logs that come from one another by exchanges.
use Rattle.std.proofs.Common.{◌≡◌, ℕ, ◌<◌, List, [], ◌∷◌, ◌++◌, true, length}
use Rattle.std.proofs.Common.{refl, sym, ap, subst, ◌∙◌, arith}
use Rattle.std.proofs.Common.{take, append_assoc}
use mathlib.Core.Logic.{inl, inr}
use Rattle.event_core.specs.declared.ids.ThreadId.{ThreadId}
use Rattle.event_core.specs.declared.ids.LockId.{LockId}
use Rattle.event_core.specs.declared.events.Event.{Event}
use Rattle.event_core.specs.Log.{depth, Conflict}
use Rattle.event_core.specs.Verdict.{Races}
use Rattle.trace_laws.specs.Exchanges.{MayExchange, exchanged, IsReordered, same, exchange, RaceWith}
use Rattle.trace_laws.specs.Exchanges.{HasSameRaces}
use Rattle.trace_laws.specs.Repeats.{is_access, Ordered}
use Rattle.trace_laws.proofs.ReorderedLogs.{Reorders, twice, does_from, of_from, fork_lt, join_lt}
use Rattle.trace_laws.proofs.ReorderedRelations.{same_po, same_hb, same_strict}
use Rattle.trace_laws.proofs.ReorderedRaces.{race_to, same_races, changed_race, order_kept}
use Rattle.trace_laws.proofs.Skips.{skip, skipped, onto}
use Rattle.trace_laws.proofs.ExchangedProperties.{one_exchange}

-- each beginning of the other log has the depths of a beginning of the log
abbrev HasFronts : List Event → List Event → Type 0
HasFronts log other =
    (k : ℕ) → (i : ℕ) × ((u : ThreadId) (l : LockId) → depth (take k other) u l ≡ depth (take i log) u l)

-- where both are the same without an access
fronts_without : (xs ys zs vs : List Event) (e : Event) → is_access e.op ≡ true → xs ++ ys ≡ zs ++ vs
    → HasFronts (xs ++ e ∷ ys) (zs ++ e ∷ vs)
fronts_without xs ys zs vs e access one k =
    let a = skipped xs ys e access in
    let b = skipped zs vs e access in
    let o = onto (length xs) (skip (length zs) k) in (
      o.0,
      λ u l. sym (b.depths k u l)
          ∙ ap (λ (es : List Event). depth (take (skip (length zs) k) es) u l) (sym one)
          ∙ ap (λ (n : ℕ). depth (take n (xs ++ ys)) u l) (sym o.2)
          ∙ a.depths o.0 u l,
    )

one_fronts : (xs ys : List Event) (e f : Event) → MayExchange e f
    → HasFronts (xs ++ e ∷ f ∷ ys) (xs ++ f ∷ e ∷ ys)
one_fronts xs ys e f may = elim may.access [
  | inl t ↦
      subst (λ (zs : List Event). HasFronts (xs ++ e ∷ f ∷ ys) zs) (append_assoc xs (f ∷ []) (e ∷ ys))
      (fronts_without xs (f ∷ ys) (xs ++ f ∷ []) ys e t (sym (append_assoc xs (f ∷ []) ys)))
  | inr t ↦
      subst (λ (zs : List Event). HasFronts zs (xs ++ f ∷ e ∷ ys)) (append_assoc xs (e ∷ []) (f ∷ ys))
      (fronts_without (xs ++ e ∷ []) ys xs (e ∷ ys) f t (append_assoc xs (e ∷ []) ys))
]

-- the locks, forks and joins stay in order
ordered_too : {log other : List Event} {to from : ℕ → ℕ} → Reorders log other to from → HasFronts log other
    → Ordered log → Ordered other
ordered_too {log = log} {other = other} {to = to} {from = from} r fronts w = record {
  orderly = record {
    one_holder = λ k u v l p q. (
        let n = fronts k in
        w.orderly.one_holder n.0 u v l (subst (λ (c : ℕ). 0 < c) (n.1 u l) p)
        (subst (λ (c : ℕ). 0 < c) (n.1 v l) q));
    held_at_release = λ k u l d. (
        let there = does_from r d in
        let up = w.orderly.held_at_release (from k) u l there in
        let same : depth (take (to (from k)) other) u l ≡ depth (take (from k) log) u l
        = r.before (from k) u l (record { event = there.event; at = there.at; thread = there.thread }) in
        subst (λ (n : ℕ). 0 < depth (take n other) u l) (r.to_from k)
        (subst (λ (c : ℕ). 0 < c) (sym same) up));
    fork_first = λ g k u v d o. (
        let there = does_from r d in
        let event = of_from r o in
        let lt = w.orderly.fork_first (from g) (from k) u v there event in
        let up = fork_lt r there event lt in
        let p = r.to_from g in
        let q = r.to_from k in
        omega (arith, up, p, q));
  };
  rest = λ j k u v d o. (
      let there = does_from r d in
      let event = of_from r o in
      let lt = w.rest (from j) (from k) u v there event in
      let up = join_lt r event there lt in
      let p = r.to_from j in
      let q = r.to_from k in
      omega (arith, up, p, q));
}

-- what many exchanges come to
record AreExchanged (log other : List Event) (to : ℕ → ℕ) : Type 0 where
  pub from : ℕ → ℕ
  pub reorders : Reorders log other to from
  pub ordered : Ordered other

itself : (log : List Event) → Reorders log log (λ i. i) (λ i. i)
itself log = record {
  events = λ i. refl;
  to_from = λ i. refl;
  from_to = λ i. refl;
  order = λ i j lt. inl lt;
  before = λ i u l o. refl;
  after = λ i u l o. refl;
}

exchanges : {log other : List Event} {to : ℕ → ℕ} → Ordered log → IsReordered log other to
    → AreExchanged log other to
exchanges {log = log} w same = record { from = λ i. i; reorders = itself log; ordered = w }
exchanges w (exchange before after e f may more) =
    let x = exchanges w more in
    let one = one_exchange before after e f may in
    record {
      from = λ k. x.from (exchanged (length before) k);
      reorders = twice x.reorders one;
      ordered = ordered_too one (one_fronts before after e f may) x.ordered;
    }

-- a reordered log has the same races
pub same_races_too : (log other : List Event) (to : ℕ → ℕ) → Ordered log → IsReordered log other to
    → HasSameRaces log other to
same_races_too log other to w h =
    let x = exchanges w h in
    let r = x.reorders in
    record {
      events = r.events;
      onto = λ k. (x.from k, r.to_from k);
      ordered = x.ordered;
      order = λ i j. (same_po i j r, same_hb i j r, same_strict i j r w.orderly x.ordered.orderly);
      races = λ i j. same_races i j r w.orderly x.ordered.orderly;
    }

-- two conflicting accesses whose order is changed race
pub changed_races : (log other : List Event) (to : ℕ → ℕ) → Ordered log → IsReordered log other to
    → (i k : ℕ) → Conflict log i k → i < k → to k < to i → Races log i k
changed_races log other to w h i k c lt down = changed_race i k (exchanges w h).reorders w.orderly c lt down

-- conflicting accesses before the first race keep their order
pub kept_before : (log other : List Event) (to : ℕ → ℕ) → Ordered log → IsReordered log other to → (j : ℕ)
    → ((i k : ℕ) → k < j → Races log i k → ⊥) → (i k : ℕ) → Conflict log i k → i < k → k < j → to i < to k
kept_before log other to w h j first i k c lt before =
    order_kept i k (exchanges w h).reorders w.orderly c lt (first i k before)

-- two events that race do so in the reordered log, in one order or the other
pub race_kept : (log other : List Event) (to : ℕ → ℕ) → Ordered log → IsReordered log other to → (i j : ℕ)
    → Races log i j → RaceWith other (to i) (to j)
race_kept log other to w h i j race =
    let x = exchanges w h in race_to i j x.reorders w.orderly x.ordered.orderly race
