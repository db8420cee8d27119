-- What a list of races stands for: as many verdicts as there are events, and among them those races.
use Rattle.std.proofs.Common.{◌≡◌, ℕ, zero, suc, ◌+◌, List, [], ◌∷◌, ◌++◌, length, refl, sym, ap, ◌∙◌, arith}
use Rattle.std.proofs.lemmas.Bool.{cases_eq}
use Rattle.std.proofs.lemmas.Bool.Decides.{nat_tests}
use mathlib.Core.Logic.{inl, inr}
use Rattle.event_core.specs.declared.replies.Verdict.TheVariants.{Clear, Racy}
use Rattle.verdict_list.specs.declared.verdicts.Race.{Race}
use Rattle.verdict_list.specs.Judged.{races_from}
use Rattle.verdict_list.specs.Spread.{Rise, spread}
use Rattle.verdict_list.proofs.RiseProperties.{past_race, past_clear}

-- if the first race is of the first event, this event is racy, and the others have the other races
pub here : (j n : ℕ) (r : Race) (rs : List Race) → r.event ≡ j
    → spread j (suc n) (r ∷ rs) ≡ Racy r.with ∷ spread (j + 1) n rs
here j n r rs same = grind (arith, nat_tests)

-- if the first race is not of the first event, this event is clear, and the others have all races
pub later : (j n : ℕ) (r : Race) (rs : List Race) → (r.event ≡ j → ⊥)
    → spread j (suc n) (r ∷ rs) ≡ Clear ∷ spread (j + 1) n (r ∷ rs)
later j n r rs other = grind (arith, nat_tests)

-- there are as many verdicts as asked for
pub length_spread : (j n : ℕ) (rs : List Race) → length (spread j n rs) ≡ n
length_spread j zero rs = refl
length_spread j (suc n) [] = ap suc (length_spread (j + 1) n [])
length_spread j (suc n) (r ∷ rs) = elim (cases_eq r.event j) [
  | inl same ↦ ap length (here j n r rs same) ∙ ap suc (length_spread (j + 1) n rs)
  | inr other ↦ ap length (later j n r rs other) ∙ ap suc (length_spread (j + 1) n (r ∷ rs))
]

-- if no race is of the last event, its verdict is clear
pub spread_clear : (j k n : ℕ) (rs : List Race) → k ≡ j + n → Rise j k rs
    → spread j (suc n) rs ≡ spread j n rs ++ Clear ∷ []
spread_clear j k zero [] e up = refl
spread_clear j k zero (r ∷ rs) e up = absurd (omega (arith, up.0, up.1))
spread_clear j k (suc n) [] e up = ap (λ vs. Clear ∷ vs) (spread_clear (j + 1) k n [] (omega arith) tt)
spread_clear j k (suc n) (r ∷ rs) e up = elim (cases_eq r.event j) [
  | inl same ↦
      let rest = spread_clear (j + 1) k n rs (omega arith) (past_race j k r rs same up) in
      here j (suc n) r rs same ∙ ap (λ vs. Racy r.with ∷ vs) rest
      ∙ sym (ap (λ vs. vs ++ Clear ∷ []) (here j n r rs same))
  | inr other ↦
      let rest = spread_clear (j + 1) k n (r ∷ rs) (omega arith) (past_clear j k r rs other up) in
      later j (suc n) r rs other ∙ ap (λ vs. Clear ∷ vs) rest
      ∙ sym (ap (λ vs. vs ++ Clear ∷ []) (later j n r rs other))
]

-- if the last race is of the last event, its verdict is racy
pub spread_racy : (j n : ℕ) (rs : List Race) (s : Race) → s.event ≡ j + n → Rise j s.event rs
    → spread j (suc n) (rs ++ s ∷ []) ≡ spread j n rs ++ Racy s.with ∷ []
spread_racy j zero [] s e up = here j 0 s [] (omega arith)
spread_racy j zero (r ∷ rs) s e up = absurd (omega (arith, up.0, up.1))
spread_racy j (suc n) [] s e up =
    later j (suc n) s [] (λ same. omega arith)
    ∙ ap (λ vs. Clear ∷ vs) (spread_racy (j + 1) n [] s (omega arith) tt)
spread_racy j (suc n) (r ∷ rs) s e up = elim (cases_eq r.event j) [
  | inl same ↦
      let rest = spread_racy (j + 1) n rs s (omega arith) (past_race j s.event r rs same up) in
      here j (suc n) r (rs ++ s ∷ []) same ∙ ap (λ vs. Racy r.with ∷ vs) rest
      ∙ sym (ap (λ vs. vs ++ Racy s.with ∷ []) (here j n r rs same))
  | inr other ↦
      let rest = spread_racy (j + 1) n (r ∷ rs) s (omega arith) (past_clear j s.event r rs other up) in
      later j (suc n) r (rs ++ s ∷ []) other ∙ ap (λ vs. Clear ∷ vs) rest
      ∙ sym (ap (λ vs. vs ++ Racy s.with ∷ []) (later j n r rs other))
]

-- the races among the verdicts are those that the verdicts are made of
pub races_of_spread : (j k n : ℕ) (rs : List Race) → k ≡ j + n → Rise j k rs
    → races_from j (spread j n rs) ≡ rs
races_of_spread j k zero [] e up = refl
races_of_spread j k zero (r ∷ rs) e up = absurd (omega (arith, up.0, up.1))
races_of_spread j k (suc n) [] e up = races_of_spread (j + 1) k n [] (omega arith) tt
races_of_spread j k (suc n) (r ∷ rs) e up = elim (cases_eq r.event j) [
  | inl same ↦
      let others = races_from (j + 1) (spread (j + 1) n rs) in
      ap (races_from j) (here j n r rs same)
      ∙ ap (λ (i : ℕ). record { event = i; with = r.with } ∷ others) (sym same)
      ∙ ap (λ ss. r ∷ ss) (races_of_spread (j + 1) k n rs (omega arith) (past_race j k r rs same up))
  | inr other ↦
      ap (races_from j) (later j n r rs other)
      ∙ races_of_spread (j + 1) k n (r ∷ rs) (omega arith) (past_clear j k r rs other up)
]
