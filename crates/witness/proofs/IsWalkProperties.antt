-- The walk over a list of events: its beginning, and one more event.
use Rattle.std.proofs.Common.{◌≡◌, ℕ, ◌+◌, ◌<◌, List, [], ◌∷◌, ◌++◌, Option, Some, None, slice_get, refl, ap}
use Rattle.std.proofs.Common.{subst, ◌∙◌, sym, arith, get_or, if◌then◌else◌}
use Rattle.std.proofs.lemmas.Bool.{cases_lt}
use Rattle.std.proofs.lemmas.Option.{get_or_from_slice_get}
use mathlib.Core.Logic.{inl, inr}
use Rattle.event_core.specs.declared.ids.VarId.{VarId}
use Rattle.event_core.specs.declared.events.Event.{Event}
use Rattle.event_core.specs.Refusal.{op_stores}
use Rattle.event_core.specs.Rows.{bump}
use Rattle.traced_mem.specs.Standing.{StandsFor}
use Rattle.witness.specs.declared.walk.Walk.{Walk}
use Rattle.witness.specs.Indices.{events_at}
use Rattle.witness.specs.Walks.{IsCount, IsNextOf}
use Rattle.witness.specs.Standing.{IsWalk}
use Rattle.witness.proofs.IndicesProperties.{events_more, store_more, no_store, no_events}
use Rattle.witness.proofs.IsCountProperties.{nothing_counted, count_more}

-- a walk before any event
pub begun : (log : List Event) (w : Walk) → w.counts.items ≡ [] → w.stores.items ≡ [] → StandsFor [] w.memory
    → IsWalk log [] w
begun log w counts stores stands = record {
  count = nothing_counted log (λ n. get_or w.counts.items n 0) (λ n. rw counts refl);
  stores = λ x. rw stores (sym (no_store log x));
  stands = subst (λ (es : List Event). StandsFor es w.memory) (sym (no_events log)) stands;
}

-- the counts that were lent are those of the walk
pub next_after : {log : List Event} {before : List ℕ} {w : Walk} {k : ℕ} (lent : List ℕ)
    → lent ≡ w.counts.items → IsWalk log before w
    → (IsCount log before (λ n. get_or lent n 0) → IsNextOf log before (λ n. get_or lent n 0) k)
    → IsNextOf log before (λ n. get_or w.counts.items n 0) k
next_after {log = log} {before = before} {k = k} lent is walk next =
    let P : List ℕ → Type 0 = λ xs. IsCount log before (λ n. get_or xs n 0) in
    let Q : List ℕ → Type 0 = λ xs. IsNextOf log before (λ n. get_or xs n 0) k in
    subst Q is (next (subst P (sym is) walk.count))

-- a walk, one event longer
pub walked : {log : List Event} {before : List ℕ} {w v : Walk} (k : ℕ) (e : Event) → slice_get log k ≡ Some e
    → IsWalk log before w → IsNextOf log before (λ n. get_or w.counts.items n 0) k
    → ((n : ℕ) → get_or v.counts.items n 0 ≡ bump e.thread.0 (λ i. get_or w.counts.items i 0) n)
    → ((x : VarId) → get_or v.stores.items x.0 None
    ≡ (if op_stores x e.op then Some k else get_or w.stores.items x.0 None))
    → StandsFor (events_at log before ++ e ∷ []) v.memory → IsWalk log (before ++ k ∷ []) v
walked {log = log} {before = before} {v = v} k e at walk next counts stores stands = record {
  count = count_more k e.thread (record { event = e; at = at; thread = refl }) walk.count next counts;
  stores = λ x.
      stores x ∙ ap (λ (o : Option ℕ). if op_stores x e.op then Some k else o) (walk.stores x)
      ∙ sym (store_more log x before k e at);
  stands =
      subst (λ (es : List Event). StandsFor es v.memory) (sym (events_more log before k e at)) stands;
}

-- a fact of each element so far, and of the next
pub each_place : (P : ℕ → ℕ → Type 0) (s : List ℕ) (i : ℕ)
    → ((n k : ℕ) → n < i → slice_get s n ≡ Some k → P n k) → P i (get_or s i 0)
    → (n k : ℕ) → n < i + 1 → slice_get s n ≡ Some k → P n k
each_place P s i old new n k lt at = elim (cases_lt n i) [
  | inl less ↦ old n k less at
  | inr ge ↦
      let same : i ≡ n = omega arith in
      let item : get_or s i 0 ≡ k = get_or_from_slice_get s i k 0 (ap (slice_get s) same ∙ at) in
      subst (λ (m : ℕ). P m k) same (subst (P i) item new)
]
