-- Sums over the numbers below one.
use Rattle.std.proofs.Common.{◌≡◌, ℕ, zero, suc, ◌<◌, ◌≤◌, ◌+◌, ◌*◌, refl, sym, ap, arith, ◌⊎◌, inl, inr}
use Rattle.std.proofs.Math.Nat.{add-mul, mul-add}
use Rattle.std.proofs.lemmas.Bool.{cases_eq}
use Rattle.wcp_laws.specs.Found.{sum_below}

-- equal numbers have one sum
pub sum_same : (n : ℕ) (f g : ℕ → ℕ) → ((i : ℕ) → i < n → g i ≡ f i) → sum_below g n ≡ sum_below f n
sum_same zero f g same = refl
sum_same (suc n) f g same =
    let rest : sum_below g n ≡ sum_below f n = sum_same n f g (λ i lt. same i (omega arith)) in
    let last : g n ≡ f n = same n (omega arith) in
    omega arith

-- numbers of at most 1 sum up to at most as many as there are
pub sum_within : (n : ℕ) (f : ℕ → ℕ) → ((i : ℕ) → f i ≤ 1) → sum_below f n ≤ n
sum_within zero f few = omega arith
sum_within (suc n) f few =
    let rest : sum_below f n ≤ n = sum_within n f few in
    let last : f n ≤ 1 = few n in
    omega arith

-- where one term is another
pub sum_changed : (n i : ℕ) (f g : ℕ → ℕ) → i < n → ((j : ℕ) → (j ≡ i → ⊥) → g j ≡ f j)
    → sum_below g n + f i ≡ sum_below f n + g i
sum_changed zero i f g lt same = absurd (omega arith)
sum_changed (suc n) i f g lt same = go (cases_eq i n) (λ below. sum_changed n i f g below same)
  where
    go : (i ≡ n) ⊎ (i ≡ n → ⊥) → (i < n → sum_below g n + f i ≡ sum_below f n + g i)
        → (sum_below g n + g n) + f i ≡ (sum_below f n + f n) + g i
    go (inl is) rest =
        let front : sum_below g n ≡ sum_below f n = sum_same n f g (λ j below. same j (λ q. omega arith)) in
        let old : f i ≡ f n = ap f is in
        let new : g i ≡ g n = ap g is in
        omega arith
    go (inr ne) rest =
        let front : sum_below g n + f i ≡ sum_below f n + g i = rest (omega arith) in
        let last : g n ≡ f n = same n (λ q. ne (sym q)) in
        omega arith

-- a row of products, and a table of them
pub sum_products : (n : ℕ) (f p : ℕ → ℕ) (c : ℕ) → ((t : ℕ) → f t ≤ p t * c)
    → sum_below f n ≤ sum_below p n * c
sum_products zero f p c few = omega arith
sum_products (suc n) f p c few =
    let rest : sum_below f n ≤ sum_below p n * c = sum_products n f p c few in
    let last : f n ≤ p n * c = few n in
    let parts : (sum_below p n + p n) * c ≡ sum_below p n * c + p n * c = add-mul (sum_below p n) (p n) c in
    omega arith

-- a table with cells of at most a product sums up to at most the product of the sums
pub sum_table : (m n : ℕ) (f : ℕ → ℕ → ℕ) (p c : ℕ → ℕ) → ((l t : ℕ) → f l t ≤ p t * c l)
    → sum_below (λ l. sum_below (f l) n) m ≤ sum_below p n * sum_below c m
sum_table zero n f p c few = omega arith
sum_table (suc m) n f p c few =
    let rest : sum_below (λ l. sum_below (f l) n) m ≤ sum_below p n * sum_below c m
    = sum_table m n f p c few in
    let last : sum_below (f m) n ≤ sum_below p n * c m = sum_products n (f m) p (c m) (few m) in
    let parts : sum_below p n * (sum_below c m + c m) ≡ sum_below p n * sum_below c m + sum_below p n * c m
    = mul-add (sum_below p n) (sum_below c m) (c m) in
    omega arith
