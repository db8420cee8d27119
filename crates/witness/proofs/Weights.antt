-- Slots: a list of different events needs no more than all events of the log.
use Rattle.std.proofs.Common.{◌≡◌, ℕ, zero, suc, ◌+◌, ◌<◌, ◌≤◌, List, [], ◌∷◌, Option, Some, None}
use Rattle.std.proofs.Common.{slice_get, take, refl, ap, sym, ◌∙◌, arith, cond, nat_eq, length}
use Rattle.std.proofs.Common.{count_by}
use Rattle.std.proofs.lemmas.Bool.{cases_eq, eq-eqb, ne_eqb}
use Rattle.std.proofs.lemmas.List.Sums.{sum_by_push, sum_by-cons}
use Rattle.std.specs.List.{sum_by}
use mathlib.Core.Logic.{inl, inr}
use Rattle.event_core.specs.declared.events.Event.{Event}
use Rattle.event_core.specs.declared.events.Op.{Op}
use Rattle.event_core.specs.declared.events.Op.TheVariants.{Acquire, Release}
use Rattle.event_core.specs.Closed.{Has, first, later}
use Rattle.event_core.specs.Refusal.{op_is_acquire, op_is_release}
use Rattle.event_core.proofs.DepthProperties.{take_event, event_at}
use Rattle.witness.specs.Indices.{events_at, with_event}

-- an acquire takes a slot and keeps one, a release takes the one that was kept, and another event takes one
abbrev pub weight : Op → ℕ
weight (Acquire l) = 2
weight (Release l) = 0
weight _ = 1

-- the slots that the events of a list take, and keep for releases
abbrev pub weigh : List Event → ℕ
weigh es = sum_by (λ (e : Event). weight e.op) es

-- the weight of an event, if there is one
abbrev pub weight_at : Option Event → ℕ
weight_at None = 0
weight_at (Some e) = weight e.op

-- the sum of a function below a number
abbrev pub sum_below : (ℕ → ℕ) → ℕ → ℕ
sum_below f zero = 0
sum_below f (suc n) = sum_below f n + f n

-- the sum of a function over a list of numbers
abbrev pub sum_of : (ℕ → ℕ) → List ℕ → ℕ
sum_of f [] = 0
sum_of f (k ∷ ks) = f k + sum_of f ks

abbrev pub but : ℕ → (ℕ → ℕ) → ℕ → ℕ
but k f n = cond (nat_eq n k) 0 (f n)

-- no number is in the list twice
abbrev pub Distinct : List ℕ → Type 0
Distinct [] = Unit {0}
Distinct (k ∷ ks) = (Has k ks → ⊥) × Distinct ks

but_same : (k : ℕ) (f : ℕ → ℕ) → but k f k ≡ 0
but_same k f = rw (eq-eqb k k refl) refl

but_other : (k n : ℕ) (f : ℕ → ℕ) → (n ≡ k → ⊥) → but k f n ≡ f n
but_other k n f ne = rw (ne_eqb n k ne) refl

below_same : (k n : ℕ) (f : ℕ → ℕ) → n ≤ k → sum_below (but k f) n ≡ sum_below f n
below_same k zero f le = refl
below_same k (suc n) f le =
    let ih = below_same k n f (omega arith) in
    let o = but_other k n f (λ e. omega arith) in
    omega arith

below_but : (k n : ℕ) (f : ℕ → ℕ) → k < n → sum_below (but k f) n + f k ≡ sum_below f n
below_but k zero f lt = absurd (omega arith)
below_but k (suc n) f lt = elim (cases_eq n k) [
  | inl e ↦
      let s = below_same k n f (omega arith) in
      let z : but k f n ≡ 0 = ap (but k f) e ∙ but_same k f in
      let v : f n ≡ f k = ap f e in
      omega arith
  | inr ne ↦
      let ih = below_but k n f (let x : n ≡ k → ⊥ = ne in omega arith) in
      let o = but_other k n f ne in
      omega arith
]

sum_but : (k : ℕ) (f : ℕ → ℕ) (ks : List ℕ) → (Has k ks → ⊥) → sum_of (but k f) ks ≡ sum_of f ks
sum_but k f [] none = refl
sum_but k f (x ∷ xs) none =
    let ih = sum_but k f xs (λ h. none (later x xs h)) in
    let o = but_other k x f (λ e. none (first x xs (sym e))) in
    omega arith

-- a sum over different numbers is at most the sum over all numbers below their bound
pub sum_distinct : (f : ℕ → ℕ) (n : ℕ) (s : List ℕ) → Distinct s → ((k : ℕ) → Has k s → k < n)
    → sum_of f s ≤ sum_below f n
sum_distinct f n [] d lt = omega arith
sum_distinct f n (k ∷ ks) d lt =
    let ih = sum_distinct (but k f) n ks d.1 (λ x h. lt x (later k ks h)) in
    let s = sum_but k f ks d.0 in
    let b = below_but k n f (lt k (first k ks refl)) in
    omega arith

-- the weights at the first n indices sum to the weight of the first n events
pub sum_log : (log : List Event) (n : ℕ) → n ≤ length log
    → sum_below (λ k. weight_at (slice_get log k)) n ≡ weigh (take n log)
sum_log log zero le = refl
sum_log log (suc n) le =
    let x = event_at log n (omega arith) in
    let ih = sum_log log n (omega arith) in
    let w : weight_at (slice_get log n) ≡ weight x.0.op = ap weight_at x.1 in
    let g : weigh (take (suc n) log) ≡ weigh (take n log) + weight x.0.op
    = ap weigh (take_event log n x.0 x.1) ∙ sum_by_push (λ (e : Event). weight e.op) (take n log) x.0 in
    omega arith

-- the weights at the indices of a list sum to the weight of their events
pub sum_events : (log : List Event) (s : List ℕ)
    → sum_of (λ k. weight_at (slice_get log k)) s ≡ weigh (events_at log s)
unfolding events_at
sum_events log [] = refl
sum_events log (k ∷ ks) =
    ap (λ (n : ℕ). weight_at (slice_get log k) + n) (sum_events log ks)
    ∙ out (slice_get log k) (events_at log ks)
  where
    out : (o : Option Event) (es : List Event) → weight_at o + weigh es ≡ weigh (with_event o es)
    out None es = omega arith
    out (Some e) es = sym (sum_by-cons (λ (x : Event). weight x.op) e es)

point : (o : Op) → weight o + cond {A = ℕ} (op_is_release o) 1 0 ≡ 1 + cond {A = ℕ} (op_is_acquire o) 1 0
point (Acquire l) = refl
point _ = refl

-- the weight of events is their number plus the number of acquires minus the number of releases
pub balance : (es : List Event) → weigh es + count_by (λ (e : Event). op_is_release e.op) es
    ≡ length es + count_by (λ (e : Event). op_is_acquire e.op) es
balance [] = refl
balance (e ∷ es) =
    let h = balance es in
    let p = point e.op in
    let w : weigh (e ∷ es) ≡ weight e.op + weigh es = sum_by-cons (λ (x : Event). weight x.op) e es in
    let r : count_by (λ (x : Event). op_is_release x.op) (e ∷ es)
    ≡ cond {A = ℕ} (op_is_release e.op) 1 0 + count_by (λ (x : Event). op_is_release x.op) es
    = sum_by-cons (λ (x : Event). cond {A = ℕ} (op_is_release x.op) 1 0) e es in
    let a : count_by (λ (x : Event). op_is_acquire x.op) (e ∷ es)
    ≡ cond {A = ℕ} (op_is_acquire e.op) 1 0 + count_by (λ (x : Event). op_is_acquire x.op) es
    = sum_by-cons (λ (x : Event). cond {A = ℕ} (op_is_acquire x.op) 1 0) e es in
    omega arith

-- a member of a list has an index
pub position : (k : ℕ) (s : List ℕ) → Has k s → (n : ℕ) × (slice_get s n ≡ Some k)
position k _ (first b bs e) = (0, ap Some (sym e))
position k _ (later b bs h) = let r = position k bs h in (suc r.0, r.1)

-- the numbers of a list are distinct where none is among those before it
pub distinct_of : (s : List ℕ) → ((n k : ℕ) → slice_get s n ≡ Some k → Has k (take n s) → ⊥) → Distinct s
distinct_of [] apart = tt
distinct_of (k ∷ ks) apart = (
  λ has. (let r = position k ks has in apart (suc r.0) k r.1 (first k (take r.0 ks) refl)),
  distinct_of ks (λ n x at has. apart (suc n) x at (later k (take n ks) has)),
)
