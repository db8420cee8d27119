-- The verdict that stands at an index, by the races.
use Rattle.std.proofs.Common.{◌≡◌, ℕ, zero, suc, ◌+◌, ◌<◌, List, [], ◌∷◌, Some, None, slice_get, refl, ap}
use Rattle.std.proofs.Common.{◌∙◌, arith}
use Rattle.std.proofs.lemmas.Bool.{cases_eq}
use Rattle.std.proofs.lemmas.Option.{same_Some}
use mathlib.Core.Logic.{inl, inr}
use Rattle.event_core.specs.declared.replies.Verdict.TheVariants.{Clear, Racy}
use Rattle.verdict_list.specs.declared.verdicts.Race.{Race}
use Rattle.verdict_list.specs.Spread.{Rise, spread}
use Rattle.verdict_list.proofs.RiseProperties.{rise_at, past_race, past_clear}
use Rattle.verdict_list.proofs.SpreadProperties.{here, later}

-- an event that no race is of is clear
pub clear_at : (j n k : ℕ) (rs : List Race) → k < n
    → ((p : ℕ) (r : Race) → slice_get rs p ≡ Some r → r.event ≡ j + k → ⊥)
    → slice_get (spread j n rs) k ≡ Some Clear
clear_at j zero k rs lt none = absurd (omega arith)
clear_at j (suc n) zero [] lt none = refl
clear_at j (suc n) zero (r ∷ rs) lt none =
    ap (λ vs. slice_get vs 0) (later j n r rs (λ same. none 0 r refl (omega arith)))
clear_at j (suc n) (suc k) [] lt none =
    clear_at (j + 1) n k [] (omega arith) (λ p r at e. none p r at (omega arith))
clear_at j (suc n) (suc k) (r ∷ rs) lt none = elim (cases_eq r.event j) [
  | inl same ↦
      ap (λ vs. slice_get vs (suc k)) (here j n r rs same)
      ∙ clear_at (j + 1) n k rs (omega arith) (λ p s at e. none (suc p) s at (omega arith))
  | inr other ↦
      ap (λ vs. slice_get vs (suc k)) (later j n r rs other)
      ∙ clear_at (j + 1) n k (r ∷ rs) (omega arith) (λ p s at e. none p s at (omega arith))
]

-- an event that a race is of is racy
pub racy_at : (j n k m p : ℕ) (rs : List Race) (r : Race) → k < n → Rise j m rs
    → slice_get rs p ≡ Some r → r.event ≡ j + k → slice_get (spread j n rs) k ≡ Some (Racy r.with)
racy_at j zero k m p rs r lt up at e = absurd (omega arith)
racy_at j (suc n) k m p [] r lt up at e = absurd (let none : None ≡ Some r = at in cc)
racy_at j (suc n) zero m zero (s ∷ rs) r lt up at e =
    let same : s ≡ r = same_Some s r at in
    let first : s.event ≡ r.event = ap (λ (t : Race). t.event) same in
    ap (λ vs. slice_get vs 0) (here j n s rs (omega arith)) ∙ ap (λ (t : Race). Some (Racy t.with)) same
racy_at j (suc n) zero m (suc p) (s ∷ rs) r lt up at e =
    absurd (omega (arith, up.0, rise_at (s.event + 1) m p rs r up.2 at))
racy_at j (suc n) (suc k) m zero (s ∷ rs) r lt up at e =
    let first : s.event ≡ r.event = ap (λ (t : Race). t.event) (same_Some s r at) in
    ap (λ vs. slice_get vs (suc k)) (later j n s rs (λ same. omega arith))
    ∙ racy_at (j + 1) n k m zero (s ∷ rs) r (omega arith) (omega arith, up.1, up.2) at (omega arith)
racy_at j (suc n) (suc k) m (suc p) (s ∷ rs) r lt up at e = elim (cases_eq s.event j) [
  | inl same ↦
      let past = past_race j m s rs same up in
      ap (λ vs. slice_get vs (suc k)) (here j n s rs same)
      ∙ racy_at (j + 1) n k m p rs r (omega arith) past at (omega arith)
  | inr other ↦
      let past = past_clear j m s rs other up in
      ap (λ vs. slice_get vs (suc k)) (later j n s rs other)
      ∙ racy_at (j + 1) n k m (suc p) (s ∷ rs) r (omega arith) past at (omega arith)
]
