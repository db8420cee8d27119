-- A log and the same without one access.
use Rattle.std.proofs.Common.{◌≡◌, ℕ, zero, suc, ◌≤◌, ◌+◌, ◌-◌, List, [], ◌∷◌, ◌++◌, Bool, true, false}
use Rattle.std.proofs.Common.{length}
use Rattle.std.proofs.Common.{refl, sym, ap, ap₂, subst, ◌∙◌, arith, take, ◌⊎◌, Some, slice_get, cond}
use Rattle.std.proofs.lemmas.Bool.{cases_eq}
use Rattle.std.specs.List.{count_by}
use mathlib.Core.Logic.{inl, inr}
use Rattle.event_core.specs.declared.ids.ThreadId.{ThreadId}
use Rattle.event_core.specs.declared.ids.LockId.{LockId}
use Rattle.event_core.specs.declared.events.Event.{Event}
use Rattle.event_core.specs.declared.events.Op.{Op}
use Rattle.event_core.specs.declared.events.Op.TheVariants.{Load, Store}
use Rattle.event_core.specs.Log.{Does, depth, acquires, releases, op_acquires, op_releases}
use Rattle.std.proofs.lemmas.Bool.{and_right}
use Rattle.trace_laws.specs.Repeats.{is_access}
use Rattle.trace_laws.proofs.WithoutProperties.{count_cons}
use Rattle.trace_laws.proofs.MovedLogs.{Moved}

-- where event i of a log is without event k
pub skip : ℕ → ℕ → ℕ
skip zero zero = zero
skip zero (suc i) = i
skip (suc k) zero = zero
skip (suc k) (suc i) = suc (skip k i)

events : (xs ys : List Event) (e : Event) (i : ℕ) → (i ≡ length xs → ⊥)
    → slice_get (xs ++ ys) (skip (length xs) i) ≡ slice_get (xs ++ e ∷ ys) i
unfolding skip
events [] ys e zero n = absurd (n refl)
events [] ys e (suc i) n = refl
events (x ∷ xs) ys e zero n = refl
events (x ∷ xs) ys e (suc i) n = events xs ys e i (λ h. n (ap suc h))

counts : (q : Event → Bool) (xs ys : List Event) (e : Event) (i : ℕ) → q e ≡ false
    → count_by q (take (skip (length xs) i) (xs ++ ys)) ≡ count_by q (take i (xs ++ e ∷ ys))
unfolding skip
counts q [] ys e zero f = refl
counts q [] ys e (suc i) f =
    let more : count_by q (e ∷ take i ys) ≡ 0 + count_by q (take i ys)
    = count_cons q e (take i ys) ∙ ap (λ (b : Bool). cond {A = ℕ} b 1 0 + count_by q (take i ys)) f in
    omega (arith, more)
counts q (x ∷ xs) ys e zero f = refl
counts q (x ∷ xs) ys e (suc i) f =
    count_cons q x (take (skip (length xs) i) (xs ++ ys))
    ∙ ap (λ (n : ℕ). cond {A = ℕ} (q x) 1 0 + n) (counts q xs ys e i f)
    ∙ sym (count_cons q x (take i (xs ++ e ∷ ys)))

rises : (k i j : ℕ) → i ≤ j → skip k i ≤ skip k j
unfolding skip
rises zero zero j le = omega arith
rises zero (suc i) zero le = absurd (omega (arith, le))
rises zero (suc i) (suc j) le = omega (arith, le)
rises (suc k) zero j le = omega arith
rises (suc k) (suc i) zero le = absurd (omega (arith, le))
rises (suc k) (suc i) (suc j) le = let h = rises k i j (omega (arith, le)) in omega (arith, h)

next : (k i : ℕ) → (i ≡ k → ⊥) → skip k (suc i) ≡ suc (skip k i)
unfolding skip
next zero zero n = absurd (n refl)
next zero (suc i) n = refl
next (suc zero) zero n = refl
next (suc (suc k)) zero n = refl
next (suc k) (suc i) n = ap suc (next k i (λ h. n (ap suc h)))

-- each index is reached but for the one that is skipped
pub onto : (k x : ℕ) → (i : ℕ) × (i ≡ k → ⊥) × (skip k i ≡ x)
unfolding skip
onto zero x = (suc x, (λ h. omega (arith, h)), refl)
onto (suc k) zero = (zero, (λ h. omega (arith, h)), refl)
onto (suc k) (suc x) =
    let o = onto k x in (suc o.0, (λ h. o.1 (let e : suc o.0 ≡ suc k = h in omega (arith, e))), ap suc o.2)

no_acquire : (l : LockId) (o : Op) → is_access o ≡ true → op_acquires l o ≡ false
no_acquire l (Load x) t = refl
no_acquire l (Store x) t = refl
no_acquire l _ t = absurd (cc)

no_release : (l : LockId) (o : Op) → is_access o ≡ true → op_releases l o ≡ false
no_release l (Load x) t = refl
no_release l (Store x) t = refl
no_release l _ t = absurd (cc)

depths : (xs ys : List Event) (e : Event) (k : ℕ) (u : ThreadId) (l : LockId) → is_access e.op ≡ true
    → depth (take (skip (length xs) k) (xs ++ ys)) u l ≡ depth (take k (xs ++ e ∷ ys)) u l
unfolding depth
depths xs ys e k u l t =
    ap₂ (λ (a b : ℕ). a - b)
    (counts (acquires u l) xs ys e k (and_right _ _ (no_acquire l e.op t)))
    (counts (releases u l) xs ys e k (and_right _ _ (no_release l e.op t)))

-- the event between two lists is at the length of the first
pub at_seam : (xs ys : List Event) (e : Event) → slice_get (xs ++ e ∷ ys) (length xs) ≡ Some e
at_seam [] ys e = refl
at_seam (x ∷ xs) ys e = at_seam xs ys e

-- the event that is left out is an access
pub skipped : (xs ys : List Event) (e : Event) → is_access e.op ≡ true
    → Moved (xs ++ e ∷ ys) (xs ++ ys) (λ i. i ≡ length xs → ⊥) (skip (length xs))
skipped xs ys e t = record {
  events = events xs ys e;
  depths = λ k u l. depths xs ys e k u l t;
  rises = rises (length xs);
  next = next (length xs);
  onto = λ x f at. onto (length xs) x;
  cases = cases;
}
  where
    cases : (i : ℕ) (u : ThreadId) (o : Op) → Does (xs ++ e ∷ ys) i u o
        → (i ≡ length xs → ⊥) ⊎ (is_access o ≡ true)
    cases i u o d = elim (cases_eq i (length xs)) [
      | inr n ↦ inl n
      | inl h ↦
          let here : Some d.event ≡ Some e
          = sym d.at ∙ ap (slice_get (xs ++ e ∷ ys)) h ∙ at_seam xs ys e in
          let same : d.event ≡ e = cc in
          inr (subst (λ (p : Op). is_access p ≡ true) (ap (λ (f : Event). f.op) (sym same) ∙ d.does) t)
    ]
