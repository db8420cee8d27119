-- Which sections of a list a clock counts, where it counts each that stands before a counted one.
use Rattle.std.proofs.Common.{◌≡◌, ℕ, suc, zero, ◌-◌, ◌<◌, ◌≤◌, ◌⊎◌, max, Bool, true, false, cond, List, []}
use Rattle.std.proofs.Common.{◌∷◌, length, refl, sym, ap, ◌∙◌, arith, Option, Some, None}
use Rattle.std.proofs.lemmas.Bool.{cases_Bool, cases_lt}
use Rattle.std.specs.Option.{option_or}
use mathlib.Core.Logic.{inl, inr}
use Rattle.event_core.specs.Closed.{Closed, Has, first, later, is_counted, number_counted, below_closed}
use Rattle.event_core.specs.Rows.{no_clock}
use Rattle.event_core.proofs.ClosedProperties.{number_most}
use Rattle.lock_queues.specs.Sections.{closed_at, latest_counted, AreRising}
use Rattle.lock_queues.specs.Searched.{CoversEarlier, IsLatestBefore}

-- the clock counts the section at the place
abbrev pub CoversAt : (ℕ → ℕ) → List Closed → ℕ → Type 0
CoversAt c qs k = is_counted c (closed_at qs k) ≡ true

-- with a section it counts each one before it
abbrev pub CoversBefore : (ℕ → ℕ) → List Closed → Type 0
CoversBefore c qs = (k m : ℕ) → k ≤ m → m < length qs → CoversAt c qs m → CoversAt c qs k

-- the section at a place is in the list
pub has_at : (qs : List Closed) (k : ℕ) → k < length qs → Has (closed_at qs k) qs
has_at [] k lt = absurd (omega arith)
has_at (q ∷ qs) zero lt = first q qs refl
has_at (q ∷ qs) (suc k) lt = later q qs (has_at qs k (omega arith))

-- what is asked of the clock, by place
pub counts_before : (c : ℕ → ℕ) (qs : List Closed) → AreRising qs → CoversEarlier c qs → CoversBefore c qs
counts_before c qs rising earlier k m le lt h =
    earlier (closed_at qs k) (closed_at qs m) (has_at qs k (omega arith)) (has_at qs m lt)
    (λ u. rising k m u le lt) h

-- where the first n are counted, so many are
pub number_least : (c : ℕ → ℕ) (qs : List Closed) (n : ℕ) → n ≤ length qs
    → ((k : ℕ) → k < n → CoversAt c qs k) → n ≤ number_counted c qs
number_least c qs zero le counted = omega arith
number_least c [] (suc n) le counted = absurd (omega arith)
number_least c (q ∷ qs) (suc n) le counted =
    let rest = number_least c qs n (omega arith) (λ k lt. counted (suc k) (omega arith)) in
    let head : cond {A = ℕ} (is_counted c q) 1 0 ≡ 1
    = ap (λ b. cond {A = ℕ} b 1 0) (counted 0 (omega arith)) in
    omega (arith, rest, head)

-- where the counted ones come first, they are so many
pub counted_first : (c : ℕ → ℕ) (qs : List Closed) → CoversBefore c qs → (k : ℕ) → k < number_counted c qs
    → CoversAt c qs k
counted_first c [] before k lt = absurd (omega arith)
counted_first c (q ∷ qs) before k lt =
    go (cases_Bool (is_counted c q)) k lt
    (counted_first c qs (λ i m le l h. before (suc i) (suc m) (omega arith) (omega arith) h))
  where
    go : (is_counted c q ≡ true) ⊎ (is_counted c q ≡ false) → (k : ℕ) → k < number_counted c (q ∷ qs)
        → ((k : ℕ) → k < number_counted c qs → CoversAt c qs k) → CoversAt c (q ∷ qs) k
    go (inl t) zero lt rest = t
    go (inl t) (suc k) lt rest =
        let head : cond {A = ℕ} (is_counted c q) 1 0 ≡ 1 = ap (λ b. cond {A = ℕ} b 1 0) t in
        rest k (omega (arith, lt, head))
    go (inr f) k lt rest =
        let head : cond {A = ℕ} (is_counted c q) 1 0 ≡ 0 = ap (λ b. cond {A = ℕ} b 1 0) f in
        let most = number_most c qs in
        let t : is_counted c q ≡ true
        = before 0 1 (omega arith) (omega (arith, lt, head, most)) (rest 0 (omega (arith, lt, head))) in
        absurd (let both : true ≡ false = sym t ∙ f in cc)

-- a counted one is among so many
counted_within : (c : ℕ → ℕ) (qs : List Closed) (k : ℕ) → CoversBefore c qs → k < length qs → CoversAt c qs k
    → k < number_counted c qs
counted_within c qs k before lt is =
    let le = number_least c qs (suc k) (omega arith) (λ j l. before j k (omega arith) lt is) in
    omega (arith, le)

-- a search that stops at n has found the counted ones
pub number_is : (c : ℕ → ℕ) (qs : List Closed) (n : ℕ) → n ≤ length qs → ((k : ℕ) → k < n → CoversAt c qs k)
    → (n < length qs → CoversAt c qs n → ⊥) → CoversBefore c qs → number_counted c qs ≡ n
number_is c qs n le counted stopped before =
    let least = number_least c qs n le counted in
    let most = number_most c qs in
    elim (cases_lt n (number_counted c qs)) [
      | inl lt ↦ absurd (stopped (omega (arith, lt, most)) (counted_first c qs before n lt))
      | inr past ↦ omega (arith, least, past)
    ]

-- the latest that is counted, by its place
pub record IsLatestAt (c : ℕ → ℕ) (qs : List Closed) (q : Closed) : Type 0 where
  pub place : ℕ
  pub within : place < length qs
  pub is : closed_at qs place ≡ q
  pub counted : CoversAt c qs place
  pub latest : (m : ℕ) → m < length qs → CoversAt c qs m → m ≤ place

-- where there is no latest counted section, none is counted
pub none_counted : (c : ℕ → ℕ) (qs : List Closed) → latest_counted c qs ≡ None → (m : ℕ) → m < length qs
    → CoversAt c qs m → ⊥
none_counted c [] e m lt h = omega arith
none_counted c (q ∷ qs) e m lt h =
    go (latest_counted c qs) refl (is_counted c q) refl e m lt h (none_counted c qs)
  where
    go : (o : Option Closed) → latest_counted c qs ≡ o → (b : Bool) → is_counted c q ≡ b
        → option_or o (cond b (Some q) None) ≡ None → (m : ℕ) → m < length (q ∷ qs) → CoversAt c (q ∷ qs) m
        → (latest_counted c qs ≡ None → (m : ℕ) → m < length qs → CoversAt c qs m → ⊥) → ⊥
    go (Some x) oe b be e m lt h rest = cc
    go None oe true be e m lt h rest = cc
    go None oe false be e zero lt h rest = let both : true ≡ false = sym h ∙ be in cc
    go None oe false be e (suc m) lt h rest = rest oe m (omega arith) h

-- the latest counted section has a place in the list
pub latest_place : (c : ℕ → ℕ) (qs : List Closed) (x : Closed) → latest_counted c qs ≡ Some x
    → IsLatestAt c qs x
latest_place c [] x e = absurd cc
latest_place c (q ∷ qs) x e =
    go (latest_counted c qs) refl (is_counted c q) refl e (latest_place c qs x) (none_counted c qs)
  where
    go : (o : Option Closed) → latest_counted c qs ≡ o → (b : Bool) → is_counted c q ≡ b
        → option_or o (cond b (Some q) None) ≡ Some x
        → (latest_counted c qs ≡ Some x → IsLatestAt c qs x)
        → (latest_counted c qs ≡ None → (m : ℕ) → m < length qs → CoversAt c qs m → ⊥)
        → IsLatestAt c (q ∷ qs) x
    go (Some y) oe b be e rest none =
        let r = rest (oe ∙ e) in
        let lt : r.place < length qs = r.within in
        record {
          place = suc r.place;
          within = omega arith;
          is = r.is;
          counted = r.counted;
          latest = later r;
        }
      where
        later : (r : IsLatestAt c qs x) → (m : ℕ) → m < length (q ∷ qs) → CoversAt c (q ∷ qs) m
            → m ≤ suc r.place
        later r zero lt h = omega arith
        later r (suc m) lt h = let le = r.latest m (omega arith) h in omega (arith, le)
    go None oe true be e rest none = record {
      place = 0;
      within = omega arith;
      is = (let same : Some q ≡ Some x = e in cc);
      counted = be;
      latest = only;
    }
      where
        only : (m : ℕ) → m < length (q ∷ qs) → CoversAt c (q ∷ qs) m → m ≤ 0
        only zero lt h = omega arith
        only (suc m) lt h = absurd (none oe m (omega arith) h)
    go None oe false be e rest none = absurd cc

-- the greatest release clock is the least bound of those of the counted ones
below_least : (c : ℕ → ℕ) (qs : List Closed) (u bound : ℕ)
    → ((k : ℕ) → k < length qs → CoversAt c qs k → (closed_at qs k).release u ≤ bound)
    → below_closed c qs u ≤ bound
below_least c [] u bound h = omega arith
below_least c (q ∷ qs) u bound h =
    go (is_counted c q) refl (below_least c qs u bound (λ k lt is. h (suc k) (omega arith) is))
  where
    go : (b : Bool) → is_counted c q ≡ b → below_closed c qs u ≤ bound
        → max (cond b q.release no_clock u) (below_closed c qs u) ≤ bound
    go true is rest = let head = h 0 (omega arith) is in omega arith
    go false is rest = omega arith

below_most : (c : ℕ → ℕ) (qs : List Closed) (u k : ℕ) → k < length qs → CoversAt c qs k
    → (closed_at qs k).release u ≤ below_closed c qs u
below_most c [] u k lt is = absurd (omega arith)
below_most c (q ∷ qs) u zero lt is =
    let all : below_closed c (q ∷ qs) u ≡ max (q.release u) (below_closed c qs u)
    = ap (λ b. max (cond b q.release no_clock u) (below_closed c qs u)) is in
    omega arith
below_most c (q ∷ qs) u (suc k) lt is =
    let rest = below_most c qs u k (omega arith) is in
    let all : below_closed c (q ∷ qs) u
    ≡ max (cond (is_counted c q) q.release no_clock u) (below_closed c qs u) = refl in
    omega arith

module _ (c : ℕ → ℕ) (qs : List Closed) (before : CoversBefore c qs) (rising : AreRising qs) where
  none_latest : number_counted c qs ≡ 0 → latest_counted c qs ≡ None
  none_latest none = go (latest_counted c qs) refl
    where
      go : (o : Option Closed) → latest_counted c qs ≡ o → o ≡ None
      go None e = refl
      go (Some x) e =
          let p = latest_place c qs x e in
          let lt = counted_within c qs p.place before p.within p.counted in
          absurd (omega (arith, lt, none))

  last_latest : 0 < number_counted c qs → latest_counted c qs ≡ Some (closed_at qs (number_counted c qs - 1))
  last_latest some = go (latest_counted c qs) refl
    where
      last : CoversAt c qs (number_counted c qs - 1)
      last = counted_first c qs before (number_counted c qs - 1) (omega arith)

      go : (o : Option Closed) → latest_counted c qs ≡ o → o ≡ Some (closed_at qs (number_counted c qs - 1))
      go None e =
          let most = number_most c qs in
          absurd (none_counted c qs e (number_counted c qs - 1) (omega arith) last)
      go (Some x) e =
          let p = latest_place c qs x e in
          let lt = counted_within c qs p.place before p.within p.counted in
          let most = number_most c qs in
          let le = p.latest (number_counted c qs - 1) (omega arith) last in
          let at : p.place ≡ number_counted c qs - 1 = omega (arith, lt, le, some) in
          ap Some (sym p.is ∙ ap (closed_at qs) at)

  last_below : (u : ℕ) → 0 < number_counted c qs
      → below_closed c qs u ≡ (closed_at qs (number_counted c qs - 1)).release u
  last_below u some =
      let most = number_most c qs in
      let least = below_least c qs u ((closed_at qs (number_counted c qs - 1)).release u)
      (λ k lt is. let l = counted_within c qs k before lt is in
      rising k (number_counted c qs - 1) u (omega (arith, l)) (omega (arith, most, some))) in
      let greatest = below_most c qs u (number_counted c qs - 1) (omega (arith, most, some))
      (counted_first c qs before (number_counted c qs - 1) (omega arith)) in
      omega (arith, least, greatest)

  -- the latest counted section is the last of those that are counted
  pub latest_before : IsLatestBefore c qs (number_counted c qs)
  latest_before = record {
    none_latest = none_latest;
    none_below = λ none i u. none_below none u i;
    latest = last_latest;
    below = λ some i u. last_below u some i;
  }
    where
      none_below : number_counted c qs ≡ 0 → (u : ℕ) → below_closed c qs u ≡ 0
      none_below none u =
          let le = below_least c qs u 0 (λ k lt is.
          (let l = counted_within c qs k before lt is in absurd (omega (arith, l, none)))) in
          omega (arith, le)
