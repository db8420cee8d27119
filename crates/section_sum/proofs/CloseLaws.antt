-- Closing the listed cells one after another.
use Rattle.std.proofs.Common.{◌≡◌, ℕ, ◌<◌, true, ◌&&◌, inl, inr, List, [], ◌∷◌, ◌++◌}
use Rattle.std.proofs.Common.{length, nat_eq, refl, sym, ap, subst, ◌∙◌}
use Rattle.std.specs.List.{list_any}
use Rattle.std.proofs.lemmas.Bool.{cases_eq, eq-eqb, ne_eqb, and_parts, false≢true}
use Rattle.section_sum.specs.declared.cell.Cell.{Cell}
use Rattle.section_sum.specs.Cell.{cell_at, is_noted, closed, closed_as}
use Rattle.section_sum.specs.Cells.{Stored}
use Rattle.section_sum.specs.LockSums.{is_own, AreListed}
use Rattle.section_sum.proofs.ListProperties.{any_left, any_here, any_more}
use Rattle.section_sum.proofs.IsKeptProperties.{own_same, own_in}

-- some of the listed cells are closed, and the others are left in the list
pub record Closing (l t n : ℕ) (before now : Stored) (left : List ℕ) : Type 0 where
  pub places : now.places ≡ before.places
  pub same : length now.cells ≡ length now.places
  pub listed : AreListed l now left
  pub exact : (i : ℕ) → closed_as (is_own l before i) t n (cell_at now.cells i)
      ≡ closed_as (is_own l before i) t n (cell_at before.cells i)

-- the next cell of the list is there
pub next_within : (l t n : ℕ) (before now : Stored) (xs ys : List ℕ) (at : ℕ) → ys ≡ xs ++ at ∷ []
    → Closing l t n before now ys → at < length now.places
next_within l t n before now xs ys at e c =
    (c.listed.own at (ap (list_any (nat_eq at)) e ∙ any_here xs at)).0

-- a listed cell is closed
pub next : (l t n : ℕ) (before now after : Stored) (xs ys : List ℕ) (at : ℕ) → ys ≡ xs ++ at ∷ []
    → after.places ≡ now.places → length after.cells ≡ length after.places
    → ((i : ℕ) → cell_at after.cells i ≡ closed_as (nat_eq i at) t n (cell_at now.cells i))
    → Closing l t n before now ys → Closing l t n before after xs
next l t n before now after xs ys at e places same exact c =
    let there : cell_at after.cells at ≡ closed t n (cell_at now.cells at)
    = exact at ∙ ap (λ b. closed_as b t n (cell_at now.cells at)) (eq-eqb at at refl) in
    let else : (i : ℕ) → (i ≡ at → ⊥) → cell_at after.cells i ≡ cell_at now.cells i
    = λ i o. exact i ∙ ap (λ b. closed_as b t n (cell_at now.cells i)) (ne_eqb i at o) in
    let mine : is_own l before at ≡ true
    = sym (own_same l before now c.places at) ∙ (c.listed.own at
    (ap (list_any (nat_eq at)) e ∙ any_here xs at)).1 in
    record {
      places = places ∙ c.places;
      same = same;
      listed = record {
        marks = λ i mark. elim (cases_eq i at) [
          | inl q ↦ absurd (false≢true (sym (ap is_noted (ap (cell_at after.cells) q ∙ there))
              ∙ (and_parts _ _ mark).1))
          | inr o ↦ any_left xs at i
              (sym (ap (list_any (nat_eq i)) e)
              ∙ c.listed.marks i (sym (ap (λ b. b && is_noted (cell_at after.cells i))
              (own_same l now after places i)
              ∙ ap (λ (x : Cell). is_own l now i && is_noted x) (else i o)) ∙ mark)) o
        ];
        own = λ i any. own_in l now after places i
            (c.listed.own i (ap (list_any (nat_eq i)) e ∙ any_more xs at i any));
      };
      exact = λ i. elim (cases_eq i at) [
        | inl q ↦ subst (λ j. closed_as (is_own l before j) t n (cell_at after.cells j)
            ≡ closed_as (is_own l before j) t n (cell_at before.cells j)) (sym q)
            (ap (λ b. closed_as b t n (cell_at after.cells at)) mine
            ∙ ap (closed t n) there
            ∙ sym (ap (λ b. closed_as b t n (cell_at now.cells at)) mine)
            ∙ c.exact at)
        | inr o ↦ ap (closed_as (is_own l before i) t n) (else i o) ∙ c.exact i
      ];
    }
