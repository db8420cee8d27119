-- The place of an event among those of its thread.
use Rattle.std.proofs.Common.{◌≡◌, ℕ, suc, ◌+◌, ◌<◌, ◌≤◌, List, [], ◌∷◌, ◌++◌, Some, slice_get, take, ap}
use Rattle.std.proofs.Common.{subst}
use Rattle.std.proofs.Common.{◌∙◌, sym, arith, cond, nat_eq, length-take, ◌⊎◌, slice_index, refl}
use Rattle.std.proofs.lemmas.Bool.{cases_order, cases_eq, eq-eqb, ne_eqb}
use Rattle.std.proofs.lemmas.List.{take-take}
use Rattle.std.proofs.lemmas.List.Sums.{count_by-le-length}
use mathlib.Core.Logic.{inl, inr}
use Rattle.event_core.specs.declared.ids.ThreadId.{ThreadId}
use Rattle.event_core.specs.declared.events.Event.{Event}
use Rattle.event_core.specs.Log.{Of}
use Rattle.event_core.specs.Count.{events_of}
use Rattle.event_core.specs.Rows.{bump}
use Rattle.event_core.proofs.CountedProperties.{events_grow}
use Rattle.event_core.proofs.CountsProperties.{rank_below}
use Rattle.event_core.proofs.DepthProperties.{take_event}
use Rattle.event_core.proofs.OrderlyProperties.{at_take}

-- of two events of a thread the earlier has the lower place
pub rank_before : (log : List Event) (u : ThreadId) (h k : ℕ) → h < k → Of log h u
    → events_of (take h log) u < events_of (take k log) u
rank_before log u h k lt o =
    let front : Of (take k log) h u
    = record { event = o.event; at = at_take log h k o.event lt o.at; thread = o.thread } in
    subst (λ (xs : List Event). events_of xs u < events_of (take k log) u)
    (take-take h k log (omega arith)) (rank_below (take k log) u h front)

-- one event has a place
pub rank_once : (log : List Event) (u : ThreadId) (h k : ℕ) → Of log h u → Of log k u
    → events_of (take h log) u ≡ events_of (take k log) u → h ≡ k
rank_once log u h k a b same = elim (cases_order h k) [
  | inl e ↦ e
  | inr c ↦ elim c [
    | inl lt ↦ absurd (let r = rank_before log u h k lt a in omega arith)
    | inr gt ↦ absurd (let r = rank_before log u k h gt b in omega arith)
  ]
]

-- a thread has at most k of the first k events
pub rank_small : (log : List Event) (u : ThreadId) (k : ℕ) → events_of (take k log) u ≤ k
unfolding events_of
rank_small log u k =
    let a = count_by-le-length (λ (e : Event). nat_eq e.thread.0 u.0) (take k log) in
    let b = length-take k log in
    omega arith

-- the numbers of events of each thread, after one more
pub counts_more : (log : List Event) (k : ℕ) (e : Event) (counts more : ℕ → ℕ) → slice_get log k ≡ Some e
    → ((u : ThreadId) → counts u.0 ≡ events_of (take k log) u)
    → ((n : ℕ) → more n ≡ bump e.thread.0 counts n)
    → (u : ThreadId) → more u.0 ≡ events_of (take (k + 1) log) u
counts_more log k e counts more at were are u =
    are u.0 ∙ stepped (cases_eq u.0 e.thread.0) ∙ sym (events_grow (take k log) e u)
    ∙ ap (λ (xs : List Event). events_of xs u) (sym grown)
  where
    grown : take (k + 1) log ≡ take k log ++ e ∷ []
    grown = let s : suc k ≡ k + 1 = omega arith in
        subst (λ (n : ℕ). take n log ≡ take k log ++ e ∷ []) s (take_event log k e at)

    stepped : (u.0 ≡ e.thread.0) ⊎ (u.0 ≡ e.thread.0 → ⊥)
        → bump e.thread.0 counts u.0 ≡ events_of (take k log) u + cond (nat_eq e.thread.0 u.0) 1 0
    stepped (inl same) =
        rw (eq-eqb u.0 e.thread.0 same, eq-eqb e.thread.0 u.0 (sym same)) (ap (λ (n : ℕ). n + 1) (were u))
    stepped (inr other) =
        rw (ne_eqb u.0 e.thread.0 other, ne_eqb e.thread.0 u.0 (λ q. other (sym q)))
        (let w = were u in omega arith)

-- an empty list counts no event
pub counts_none : (counts : List ℕ) → counts ≡ [] → (u : ThreadId) → slice_index counts u.0 ≡ events_of [] u
unfolding events_of
counts_none counts e u = rw e refl
