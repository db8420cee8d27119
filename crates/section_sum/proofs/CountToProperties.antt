-- How many numbers pass.
use Rattle.std.proofs.Common.{◌≡◌, ℕ, zero, suc, ◌+◌, ◌<◌, ◌≤◌, Bool, true, false, ◌||◌, cond, nat_eq}
use Rattle.std.proofs.Common.{inl, inr, refl, sym, ap, ◌∙◌, arith}
use Rattle.std.proofs.lemmas.Bool.{cases_eq, eq-eqb, eqb-true, ne_eqb, or_right, false≢true}
use Rattle.section_sum.specs.Cells.{count_to}
use Rattle.section_sum.proofs.ListProperties.{or_false}

-- one number more
pub count_more : (f : ℕ → Bool) (n : ℕ) → count_to f (n + 1) ≡ count_to f n + cond {A = ℕ} (f n) 1 0
count_more f n = let one : n + 1 ≡ suc n = omega arith in ap (count_to f) one

-- tests that agree pass as many numbers
pub count_same : (f g : ℕ → Bool) (n : ℕ) → ((i : ℕ) → i < n → f i ≡ g i) → count_to f n ≡ count_to g n
count_same f g zero h = refl
count_same f g (suc n) h =
    ap (λ x. x + cond {A = ℕ} (f n) 1 0) (count_same f g n (λ i l. h i (omega (arith, l))))
    ∙ ap (λ b. count_to g n + cond {A = ℕ} b 1 0) (h n (omega arith))

-- one number passes that did not
pub count_one : (f g : ℕ → Bool) (n at : ℕ) → at < n → f at ≡ false → g at ≡ true
    → ((i : ℕ) → (i ≡ at → ⊥) → g i ≡ f i) → count_to g n ≡ count_to f n + 1
count_one f g zero at h off on same = absurd (omega (arith, h))
count_one f g (suc n) at h off on same =
    let last : count_to g (suc n) ≡ count_to g n + cond {A = ℕ} (g n) 1 0 = refl in
    let was : count_to f (suc n) ≡ count_to f n + cond {A = ℕ} (f n) 1 0 = refl in
    elim (cases_eq n at) [
      | inl e ↦
          let below = count_same g f n (λ i l. same i (λ q. omega (arith, q, e, l))) in
          let one : cond {A = ℕ} (g n) 1 0 ≡ 1 = ap (λ b. cond {A = ℕ} b 1 0) (ap g e ∙ on) in
          let none : cond {A = ℕ} (f n) 1 0 ≡ 0 = ap (λ b. cond {A = ℕ} b 1 0) (ap f e ∙ off) in
          omega (arith, last, was, below, one, none)
      | inr o ↦
          let below = count_one f g n at (omega (arith, h, o)) off on same in
          let both : cond {A = ℕ} (g n) 1 0 ≡ cond (f n) 1 0 = ap (λ b. cond {A = ℕ} b 1 0) (same n o) in
          omega (arith, last, was, below, both)
    ]

pub count_le : (f g : ℕ → Bool) (n : ℕ) → ((i : ℕ) → f i ≡ true → g i ≡ true) → count_to f n ≤ count_to g n
count_le f g zero h = omega arith
count_le f g (suc n) h =
    let last : count_to g (suc n) ≡ count_to g n + cond {A = ℕ} (g n) 1 0 = refl in
    let was : count_to f (suc n) ≡ count_to f n + cond {A = ℕ} (f n) 1 0 = refl in
    let below = count_le f g n h in
    let both : cond {A = ℕ} (f n) 1 0 ≤ cond (g n) 1 0 = less (f n) (g n) (h n) in
    omega (arith, last, was, below, both)
  where
    less : (a b : Bool) → (a ≡ true → b ≡ true) → cond {A = ℕ} a 1 0 ≤ cond b 1 0
    less true true h = omega arith
    less true false h = absurd (false≢true (h refl))
    less false true h = omega arith
    less false false h = omega arith

-- where one number does not pass that could
pub count_less : (f g : ℕ → Bool) (n at : ℕ) → at < n → f at ≡ false → g at ≡ true
    → ((i : ℕ) → f i ≡ true → g i ≡ true) → count_to f n < count_to g n
count_less f g n at h off on all =
    let both : ℕ → Bool = λ i. f i || nat_eq i at in
    let one = count_one f both n at h off (ap (λ b. f at || b) (eq-eqb at at refl) ∙ or_right
    (f at) true refl)
    (λ i o. ap (λ b. f i || b) (ne_eqb i at o) ∙ or_false (f i)) in
    let le = count_le both g n (λ i e. either i (f i) refl e) in
    omega (arith, one, le)
  where
    either : (i : ℕ) (b : Bool) → f i ≡ b → (f i || nat_eq i at) ≡ true → g i ≡ true
    either i true q e = all i q
    either i false q e =
        ap g (eqb-true i at (sym (ap (λ b. b || nat_eq i at) q) ∙ e)) ∙ on

-- one number passes
pub count_some : (f : ℕ → Bool) (n at : ℕ) → at < n → f at ≡ true → 0 < count_to f n
count_some f n at h on =
    let less = count_less (λ _. false) f n at h refl on (λ _ e. absurd (false≢true e)) in omega (arith, less)
