-- A thread has one fork.
use Rattle.std.proofs.Common.{◌≡◌, ℕ, ◌+◌, ◌<◌, ◌⊎◌, List, Bool, true, false, Option, Some, None, take, sym}
use Rattle.std.proofs.Common.{ap}
use Rattle.std.proofs.Common.{◌∙◌, refl, arith, get_or, slice_get, if◌then◌else◌}
use Rattle.std.proofs.lemmas.Bool.{cases_order, cases_Bool, eq-eqb, eqb-true, both_ways, or_parts, or_left}
use Rattle.std.proofs.lemmas.Bool.{or_right}
use Rattle.std.proofs.lemmas.Map.Keys.{any_passes_from_place}
use Rattle.std.specs.List.{list_any}
use mathlib.Core.Logic.{inl, inr}
use Rattle.event_core.specs.declared.ids.ThreadId.{ThreadId}
use Rattle.event_core.specs.declared.events.Event.{Event}
use Rattle.event_core.specs.declared.bounds.Limits.{Limits}
use Rattle.event_core.specs.declared.events.Op.{Op}
use Rattle.event_core.specs.declared.events.Op.TheVariants.{Fork}
use Rattle.event_core.specs.declared.bounds.Roots.{Roots}
use Rattle.event_core.specs.declared.bounds.Roots.TheVariants.{OnlyMain, Free}
use Rattle.event_core.specs.declared.replies.Refusal.TheVariants.{AlreadyStarted}
use Rattle.event_core.specs.Log.{Does}
use Rattle.event_core.specs.Refusal.{WellFormed, forks, mentions, op_forks, known}
use Rattle.event_core.proofs.DepthProperties.{same_thread_id}
use Rattle.event_core.proofs.OrderlyProperties.{reasons_at, when_none, at_take}

forked_again : (m : Limits) (log : List Event) (g h : ℕ) (u v w : ThreadId) → WellFormed m log
    → Does log g v (Fork u) → Does log h w (Fork u) → g < h → ⊥
forked_again m log g h u v w formed a b lt =
    go m.roots (when_none _ AlreadyStarted (reasons_at m log h w (Fork u) formed b).not_known)
  where
    here : op_forks u a.event.op ≡ true
    here = ap (op_forks u) a.does ∙ eq-eqb u.0 u.0 refl

    any : (p : Event → Bool) → p a.event ≡ true → list_any p (take h log) ≡ true
    any p is = any_passes_from_place p (take h log) g a.event (at_take log g h a.event lt a.at) is

    go : (roots : Roots) → known roots (take h log) u ≡ false → ⊥
    go OnlyMain none = both_ways _ (or_parts _ _ none).1 (any (forks u) here)
    go Free none = both_ways _ none (any (mentions u) (or_right _ _ (or_left _ _ here)))

op_forks_is : (u : ThreadId) (o : Op) → op_forks u o ≡ true → o ≡ Fork u
op_forks_is u (Fork v) t = ap Fork (same_thread_id (eqb-true v.0 u.0 t))
op_forks_is u _ t = cc

pub one_fork : (m : Limits) (log : List Event) (g h : ℕ) (u v w : ThreadId) → WellFormed m log
    → Does log g v (Fork u) → Does log h w (Fork u) → g ≡ h
one_fork m log g h u v w formed a b = elim (cases_order g h) [
  | inl e ↦ e
  | inr c ↦ elim c [
    | inl lt ↦ absurd (forked_again m log g h u v w formed a b lt)
    | inr gt ↦ absurd (forked_again m log h g u w v formed b a gt)
  ]
]

-- the forks that are kept, after one more event
pub fork_noted : (m : Limits) (log : List Event) (k : ℕ) (e : Event) (forks more : List (Option ℕ))
    → WellFormed m log → slice_get log k ≡ Some e
    → ((n : ℕ) → n < k → (v u : ThreadId) → Does log n v (Fork u) → get_or forks u.0 None ≡ Some n)
    → ((u : ThreadId) → get_or more u.0 None ≡ (if op_forks u e.op then Some k else get_or forks u.0 None))
    → (n : ℕ) → n < k + 1 → (v u : ThreadId) → Does log n v (Fork u) → get_or more u.0 None ≡ Some n
fork_noted m log k e forks more formed at old noted n lt v u d = go (cases_Bool (op_forks u e.op))
  where
    there : op_forks u e.op ≡ true → n ≡ k
    there t =
        one_fork m log n k u v e.thread formed d
        (record { event = e; at = at; thread = refl; does = op_forks_is u e.op t })

    go : (op_forks u e.op ≡ true) ⊎ (op_forks u e.op ≡ false) → get_or more u.0 None ≡ Some n
    go (inl t) =
        noted u
        ∙ ap (λ (b : Bool). if b then Some k else get_or forks u.0 None) t ∙ ap Some (sym (there t))
    go (inr f) =
        let not_last : n ≡ k → ⊥ = λ is. both_ways _ f (
        let at' : slice_get log n ≡ Some e = ap (slice_get log) is ∙ at in
        let same : d.event ≡ e = let s : Some d.event ≡ Some e = sym d.at ∙ at' in cc in
        ap (λ (x : Event). op_forks u x.op) (sym same) ∙ ap (op_forks u) d.does ∙ eq-eqb u.0 u.0 refl) in
        noted u ∙ ap (λ (b : Bool). if b then Some k else get_or forks u.0 None) f
        ∙ old n (omega arith) v u d
