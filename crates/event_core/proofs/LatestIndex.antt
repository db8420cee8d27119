-- The latest index below j that has a property that can be decided.
use Rattle.std.proofs.Common.{◌≡◌, ℕ, suc, zero, ◌<◌, ◌≤◌, ◌+◌, ◌⊎◌, Bool, true, false, cond, refl, sym}
use Rattle.std.proofs.Common.{subst, arith}
use Rattle.std.proofs.lemmas.Bool.{cases_lt}
use mathlib.Core.Logic.{inl, inr}

-- the greatest index below j that has the property
pub record Latest (P : ℕ → Type 0) (j : ℕ) : Type 0 where
  pub index : ℕ
  pub below : index < j
  pub holds : P index
  pub none_after : (k : ℕ) → index < k → k < j → P k → ⊥

-- below j a decidable property has a latest index, or none
pub latest : (P : ℕ → Type 0) → ((k : ℕ) → P k ⊎ (P k → ⊥)) → (j : ℕ)
    → Latest P j ⊎ ((k : ℕ) → k < j → P k → ⊥)
latest P dec zero = inr (λ k lt h. absurd (omega arith))
latest P dec (suc j) = go (dec j) (latest P dec j)
  where
    last_is : (P j → ⊥) → (k : ℕ) → k < suc j → P k → k < j
    last_is not_last k lt h = elim (cases_lt k j) [
      | inl l ↦ l
      | inr g ↦ absurd (not_last (let e : k ≡ j = omega arith in subst P e h))
    ]

    go : P j ⊎ (P j → ⊥) → Latest P j ⊎ ((k : ℕ) → k < j → P k → ⊥)
        → Latest P (suc j) ⊎ ((k : ℕ) → k < suc j → P k → ⊥)
    go (inl h) r =
        inl (record
        { index = j; below = omega arith; holds = h; none_after = λ k a b p. absurd (omega arith) })
    go (inr not_j) (inl l) = inl (record {
      index = l.index;
      below = omega arith;
      holds = l.holds;
      none_after = λ k a b p. l.none_after k a (last_is not_j k b p) p;
    })
    go (inr not_j) (inr none) = inr (λ k lt p. none k (last_is not_j k lt p) p)

-- an index that has it is at most the latest one
pub at_most_latest : {P : ℕ → Type 0} {j k : ℕ} → (l : Latest P j) → k < j → P k → k ≤ l.index
at_most_latest {k = k} l lt h =
    elim (cases_lt l.index k) [ inl a ↦ absurd (l.none_after k a lt h) | inr b ↦ b ]

-- the latest, where one is known
pub latest_of : (P : ℕ → Type 0) → ((k : ℕ) → P k ⊎ (P k → ⊥)) → (k j : ℕ) → k < j → P k → Latest P j
latest_of P dec k j lt h = elim (latest P dec j) [ inl l ↦ l | inr none ↦ absurd (none k lt h) ]

-- the latest index at which c was at most k, where it is above k at n
pub record Crossing (c : ℕ → ℕ) (k n : ℕ) : Type 0 where
  pub index : ℕ
  pub below : index < n
  pub low : c index ≤ k
  pub high : (j : ℕ) → index < j → j ≤ n → k < c j

-- numbers that begin at or below k and come above it cross k at some index
pub crossing : (c : ℕ → ℕ) (k n : ℕ) → c 0 ≤ k → k < c n → Crossing c k n
crossing c k zero low up = absurd (omega arith)
crossing c k (suc n) low up = go (cases_lt k (c n)) (crossing c k n low)
  where
    top : (j : ℕ) → j ≡ suc n → k < c j
    top j e = subst (λ m. k < c m) (sym e) up

    go : (k < c n) ⊎ (c n ≤ k) → (k < c n → Crossing c k n) → Crossing c k (suc n)
    go (inr here) ih =
        record { index = n; below = omega arith; low = here; high = λ j a b. top j (omega arith) }
    go (inl h) ih =
        let p = ih h in
        record {
          index = p.index;
          below = omega arith;
          low = p.low;
          high = λ j a b. elim (cases_lt n j) [ inl past ↦ top j (omega arith) | inr le ↦ p.high j a le ];
        }

-- a number that one more takes above k was k
pub one_up : (a k : ℕ) (b : Bool) → a ≤ k → k < a + cond b 1 0 → (b ≡ true) × (a ≡ k)
one_up a k true le lt = (refl, omega arith)
one_up a k false le lt = absurd (omega arith)
