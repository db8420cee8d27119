-- The log in which two events side by side are exchanged.
use Rattle.std.proofs.Common.{◌≡◌, ℕ, zero, suc, ◌<◌, ◌+◌, ◌-◌, List, [], ◌∷◌, ◌++◌, Bool, false, length}
use Rattle.std.proofs.Common.{refl, sym, ap, ap₂, ◌∙◌, arith, take, ◌⊎◌, Some, slice_get, cond}
use Rattle.std.proofs.Common.{nat_eq}
use Rattle.std.proofs.lemmas.Bool.{and_left}
use Rattle.std.specs.List.{count_by}
use mathlib.Core.Logic.{inl, inr}
use Rattle.event_core.specs.declared.ids.ThreadId.{ThreadId}
use Rattle.event_core.specs.declared.ids.LockId.{LockId}
use Rattle.event_core.specs.declared.events.Event.{Event}
use Rattle.event_core.specs.Log.{Of, depth, acquires, releases, op_acquires, op_releases}
use Rattle.event_core.proofs.CountedProperties.{nat_eq_other}
use Rattle.event_core.proofs.DepthProperties.{same_thread_id}
use Rattle.trace_laws.specs.Exchanges.{MayExchange, exchanged}
use Rattle.trace_laws.proofs.WithoutProperties.{count_cons}
use Rattle.trace_laws.proofs.ReorderedLogs.{Apart, Reorders}
use Rattle.trace_laws.proofs.Skips.{at_seam}

-- the indices
twice_back : (n i : ℕ) → exchanged n (exchanged n i) ≡ i
unfolding exchanged
twice_back zero zero = refl
twice_back zero (suc zero) = refl
twice_back zero (suc (suc i)) = refl
twice_back (suc n) zero = refl
twice_back (suc n) (suc i) = ap suc (twice_back n i)

order_but : (n i j : ℕ) → i < j → (exchanged n i < exchanged n j) ⊎ ((i ≡ n) × (j ≡ suc n))
unfolding exchanged
order_but zero zero zero lt = absurd (omega (arith, lt))
order_but zero zero (suc zero) lt = inr (refl, refl)
order_but zero zero (suc (suc j)) lt = inl (omega arith)
order_but zero (suc zero) zero lt = absurd (omega (arith, lt))
order_but zero (suc zero) (suc zero) lt = absurd (omega (arith, lt))
order_but zero (suc zero) (suc (suc j)) lt = inl (omega arith)
order_but zero (suc (suc i)) zero lt = absurd (omega (arith, lt))
order_but zero (suc (suc i)) (suc zero) lt = absurd (omega (arith, lt))
order_but zero (suc (suc i)) (suc (suc j)) lt = inl (omega (arith, lt))
order_but (suc n) i zero lt = absurd (omega (arith, lt))
order_but (suc n) zero (suc j) lt = inl (omega arith)
order_but (suc n) (suc i) (suc j) lt = elim (order_but n i j (omega (arith, lt))) [
  | inl h ↦ inl (omega (arith, h))
  | inr h ↦ inr (ap suc h.0, ap suc h.1)
]

events : (xs ys : List Event) (e f : Event) (i : ℕ)
    → slice_get (xs ++ f ∷ e ∷ ys) (exchanged (length xs) i) ≡ slice_get (xs ++ e ∷ f ∷ ys) i
unfolding exchanged
events [] ys e f zero = refl
events [] ys e f (suc zero) = refl
events [] ys e f (suc (suc i)) = refl
events (x ∷ xs) ys e f zero = refl
events (x ∷ xs) ys e f (suc i) = events xs ys e f i

-- the events of a thread before one of its own are as many
count_zero : (q : Event → Bool) (e : Event) (xs : List Event) → q e ≡ false
    → count_by q (e ∷ xs) ≡ count_by q xs
count_zero q e xs none =
    let more : count_by q (e ∷ xs) ≡ 0 + count_by q xs
    = count_cons q e xs ∙ ap (λ (b : Bool). cond {A = ℕ} b 1 0 + count_by q xs) none in
    omega (arith, more)

count_swap : (q : Event → Bool) (e f : Event) (xs : List Event)
    → count_by q (f ∷ e ∷ xs) ≡ count_by q (e ∷ f ∷ xs)
count_swap q e f xs =
    let a = count_cons q f (e ∷ xs) in
    let b = count_cons q e xs in
    let c = count_cons q e (f ∷ xs) in
    let d = count_cons q f xs in
    omega (arith, a, b, c, d)

-- the other event is not counted
record Uncounted (q : Event → Bool) (n i : ℕ) (e f : Event) : Type 0 where
  pub second : i ≡ n → q f ≡ false
  pub first : i ≡ suc n → q e ≡ false

lower : {q : Event → Bool} {n i : ℕ} {e f : Event} → Uncounted q (suc n) (suc i) e f → Uncounted q n i e f
lower u = record { second = λ h. u.second (ap suc h); first = λ h. u.first (ap suc h) }

counts : (q : Event → Bool) (xs ys : List Event) (e f : Event) (i : ℕ) → Uncounted q (length xs) i e f
    → count_by q (take (exchanged (length xs) i) (xs ++ f ∷ e ∷ ys))
    ≡ count_by q (take i (xs ++ e ∷ f ∷ ys))
unfolding exchanged
counts q [] ys e f zero u = count_zero q f [] (u.second refl)
counts q [] ys e f (suc zero) u = sym (count_zero q e [] (u.first refl))
counts q [] ys e f (suc (suc i)) u = count_swap q e f (take i ys)
counts q (x ∷ xs) ys e f zero u = refl
counts q (x ∷ xs) ys e f (suc i) u =
    count_cons q x (take (exchanged (length xs) i) (xs ++ f ∷ e ∷ ys))
    ∙ ap (λ (n : ℕ). cond {A = ℕ} (q x) 1 0 + n) (counts q xs ys e f i (lower u))
    ∙ sym (count_cons q x (take i (xs ++ e ∷ f ∷ ys)))

counts_after : (q : Event → Bool) (xs ys : List Event) (e f : Event) (i : ℕ)
    → Uncounted q (length xs) i e f
    → count_by q (take (suc (exchanged (length xs) i)) (xs ++ f ∷ e ∷ ys))
    ≡ count_by q (take (suc i) (xs ++ e ∷ f ∷ ys))
unfolding exchanged
counts_after q [] ys e f zero u = count_zero q f (e ∷ []) (u.second refl)
counts_after q [] ys e f (suc zero) u = sym (count_zero q e (f ∷ []) (u.first refl))
counts_after q [] ys e f (suc (suc i)) u = count_swap q e f (take (suc i) ys)
counts_after q (x ∷ xs) ys e f zero u =
    count_cons q x (take 0 (xs ++ f ∷ e ∷ ys)) ∙ sym (count_cons q x (take 0 (xs ++ e ∷ f ∷ ys)))
counts_after q (x ∷ xs) ys e f (suc i) u =
    count_cons q x (take (suc (exchanged (length xs) i)) (xs ++ f ∷ e ∷ ys))
    ∙ ap (λ (n : ℕ). cond {A = ℕ} (q x) 1 0 + n) (counts_after q xs ys e f i (lower u))
    ∙ sym (count_cons q x (take (suc i) (xs ++ e ∷ f ∷ ys)))

second_at : (xs ys : List Event) (e f : Event) → slice_get (xs ++ e ∷ f ∷ ys) (suc (length xs)) ≡ Some f
second_at [] ys e f = refl
second_at (x ∷ xs) ys e f = second_at xs ys e f

-- an event of another thread is not counted with the thread's
uncounted : (q : Event → Bool) (xs ys : List Event) (e f : Event) (i : ℕ) (u : ThreadId)
    → (e.thread ≡ f.thread → ⊥) → Of (xs ++ e ∷ f ∷ ys) i u
    → ((x : Event) → (x.thread ≡ u → ⊥) → q x ≡ false) → Uncounted q (length xs) i e f
uncounted q xs ys e f i u apart o none = record {
  second = λ h. (
      let here : Some o.event ≡ Some e
      = sym o.at ∙ ap (slice_get (xs ++ e ∷ f ∷ ys)) h ∙ at_seam xs (f ∷ ys) e in
      let is : o.event ≡ e = cc in
      none f (λ k. apart (ap (λ (x : Event). x.thread) (sym is) ∙ o.thread ∙ sym k)));
  first = λ h. (
      let here : Some o.event ≡ Some f
      = sym o.at ∙ ap (slice_get (xs ++ e ∷ f ∷ ys)) h ∙ second_at xs ys e f in
      let is : o.event ≡ f = cc in
      none e (λ k. apart (k ∙ sym o.thread ∙ ap (λ (x : Event). x.thread) is)));
}

not_acquired : (u : ThreadId) (l : LockId) (x : Event) → (x.thread ≡ u → ⊥) → acquires u l x ≡ false
not_acquired u l x n =
    and_left (nat_eq x.thread.0 u.0) (op_acquires l x.op)
    (nat_eq_other x.thread.0 u.0 (λ h. n (same_thread_id h)))

not_released : (u : ThreadId) (l : LockId) (x : Event) → (x.thread ≡ u → ⊥) → releases u l x ≡ false
not_released u l x n =
    and_left (nat_eq x.thread.0 u.0) (op_releases l x.op)
    (nat_eq_other x.thread.0 u.0 (λ h. n (same_thread_id h)))

depth_before : (xs ys : List Event) (e f : Event) (i : ℕ) (u : ThreadId) (l : LockId)
    → (e.thread ≡ f.thread → ⊥) → Of (xs ++ e ∷ f ∷ ys) i u
    → depth (take (exchanged (length xs) i) (xs ++ f ∷ e ∷ ys)) u l
    ≡ depth (take i (xs ++ e ∷ f ∷ ys)) u l
unfolding depth
depth_before xs ys e f i u l apart o =
    ap₂ (λ (a b : ℕ). a - b)
    (counts (acquires u l) xs ys e f i
    (uncounted (acquires u l) xs ys e f i u apart o (not_acquired u l)))
    (counts (releases u l) xs ys e f i
    (uncounted (releases u l) xs ys e f i u apart o (not_released u l)))

depth_after : (xs ys : List Event) (e f : Event) (i : ℕ) (u : ThreadId) (l : LockId)
    → (e.thread ≡ f.thread → ⊥) → Of (xs ++ e ∷ f ∷ ys) i u
    → depth (take (suc (exchanged (length xs) i)) (xs ++ f ∷ e ∷ ys)) u l
    ≡ depth (take (suc i) (xs ++ e ∷ f ∷ ys)) u l
unfolding depth
depth_after xs ys e f i u l apart o =
    ap₂ (λ (a b : ℕ). a - b)
    (counts_after (acquires u l) xs ys e f i
    (uncounted (acquires u l) xs ys e f i u apart o (not_acquired u l)))
    (counts_after (releases u l) xs ys e f i
    (uncounted (releases u l) xs ys e f i u apart o (not_released u l)))

-- it has the log's events in another order
pub one_exchange : (xs ys : List Event) (e f : Event) → MayExchange e f
    → Reorders (xs ++ e ∷ f ∷ ys) (xs ++ f ∷ e ∷ ys) (exchanged (length xs)) (exchanged (length xs))
one_exchange xs ys e f may = record {
  events = events xs ys e f;
  to_from = twice_back (length xs);
  from_to = twice_back (length xs);
  order = order;
  before = λ i u l o. depth_before xs ys e f i u l may.threads o;
  after = λ i u l o. depth_after xs ys e f i u l may.threads o;
}
  where
    order : (i j : ℕ) → i < j
        → (exchanged (length xs) i < exchanged (length xs) j) ⊎ Apart (xs ++ e ∷ f ∷ ys) i j
    order i j lt = elim (order_but (length xs) i j lt) [
      | inl h ↦ inl h
      | inr h ↦ inr (
          record {
            first = e;
            second = f;
            at_first = ap (slice_get (xs ++ e ∷ f ∷ ys)) h.0 ∙ at_seam xs (f ∷ ys) e;
            at_second = ap (slice_get (xs ++ e ∷ f ∷ ys)) h.1 ∙ second_at xs ys e f;
            may = may;
          }
          )
    ]
