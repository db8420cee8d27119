-- What an event is to the clocks, and how it changes the depths.
use Rattle.std.proofs.Common.{◌≡◌, ℕ, suc, ◌<◌, ◌≤◌, ◌+◌, ◌-◌, List, [], ◌∷◌, ◌++◌, Bool, true, false, length}
use Rattle.std.proofs.Common.{refl, sym, ap, subst, ◌∙◌, arith, take, take_all, cond, nat_eq}
use Rattle.std.proofs.lemmas.Bool.{cases_eq, eq-eqb, ne_eqb, cond-true, cond-false, false_from_ne_true}
use Rattle.std.proofs.Math.Seq.{take-append_seam}
use Rattle.std.proofs.lemmas.List.{take-append-le}
use mathlib.Core.Logic.{inl, inr}
use Rattle.event_core.proofs.Words.{ThreadId, LockId, VarId, AccessKind, Read, Write, Event, Op, Load, Store}
use Rattle.event_core.proofs.Words.{Acquire, Release, Fork, Join}
use Rattle.event_core.specs.Log.{depth, acquires, releases, OuterAcquire, OuterRelease}
use Rattle.event_core.specs.Orderly.{Orderly}
use Rattle.event_core.specs.Refusal.{lock_at}
use Rattle.event_core.specs.Effect.{access_of, Effect, Accesses, Opens, Closes, Forks, Joins, Inner}
use Rattle.event_core.specs.Effect.{effect_of}
use Rattle.event_core.proofs.LogProperties.{does_op}
use Rattle.event_core.proofs.DepthProperties.{count_with, acquires_is}
use Rattle.event_core.proofs.InsideProperties.{releases_is, does_release, not_both, depth_acquire}
use Rattle.event_core.proofs.CountedProperties.{grown_length, last_does, last_as}

-- the effect is that of the event after the log
pub data Fits (log : List Event) (e : Event) : Effect → Type 0 where
  accesses : (x : VarId) (k : AccessKind) → e.op ≡ access_of x k → Fits log e (Accesses x k)
  opens : (l : LockId) → e.op ≡ Acquire l → depth log e.thread l ≡ 0 → Fits log e (Opens l)
  closes : (l : LockId) → e.op ≡ Release l → depth log e.thread l ≡ 1 → Fits log e (Closes l)
  forks : (u : ThreadId) → e.op ≡ Fork u → Fits log e (Forks u)
  joins : (u : ThreadId) → e.op ≡ Join u → Fits log e (Joins u)
  again : (l : LockId) → e.op ≡ Acquire l → (depth log e.thread l ≡ 0 → ⊥) → Fits log e Inner
  inner : (l : LockId) → e.op ≡ Release l → (depth log e.thread l ≡ 1 → ⊥) → Fits log e Inner

-- the effect of an operation, by the depths of its thread, fits the event
pub fits : (log : List Event) (e : Event) (d : ℕ → ℕ) → ((l : LockId) → d l.0 ≡ depth log e.thread l)
    → Fits log e (effect_of d e.op)
fits log e d is = go e.op refl
  where
    go : (o : Op) → e.op ≡ o → Fits log e (effect_of d o)
    go (Load x) p = accesses x Read p
    go (Store x) p = accesses x Write p
    go (Fork u) p = forks u p
    go (Join u) p = joins u p
    go (Acquire l) p = elim (cases_eq (d l.0) 0) [
      | inl z ↦ subst (λ (b : Bool). Fits log e (cond b (Opens l) Inner)) (sym (eq-eqb (d l.0) 0 z))
          (opens l p (sym (is l) ∙ z))
      | inr n ↦ subst (λ (b : Bool). Fits log e (cond b (Opens l) Inner)) (sym (ne_eqb (d l.0) 0 n))
          (again l p (λ z. n (is l ∙ z)))
    ]
    go (Release l) p = elim (cases_eq (d l.0) 1) [
      | inl z ↦ subst (λ (b : Bool). Fits log e (cond b (Closes l) Inner)) (sym (eq-eqb (d l.0) 1 z))
          (closes l p (sym (is l) ∙ z))
      | inr n ↦ subst (λ (b : Bool). Fits log e (cond b (Closes l) Inner)) (sym (ne_eqb (d l.0) 1 n))
          (inner l p (λ z. n (is l ∙ z)))
    ]

-- an event has one effect
pub effect_at : (log : List Event) (e : Event) (k : Effect) (p : Op) → Fits log e k → e.op ≡ p
    → k ≡ effect_of (λ n. depth log e.thread (lock_at n)) p
effect_at log e k p f q = go k f
  where
    effect : Op → Effect
    effect = effect_of (λ n. depth log e.thread (lock_at n))

    go : (k : Effect) → Fits log e k → k ≡ effect p
    go _ (accesses x Read o) = ap effect (sym o ∙ q)
    go _ (accesses x Write o) = ap effect (sym o ∙ q)
    go _ (forks u o) = ap effect (sym o ∙ q)
    go _ (joins u o) = ap effect (sym o ∙ q)
    go _ (opens l o z) =
        sym (cond-true (nat_eq (depth log e.thread l) 0) (Opens l) Inner (eq-eqb _ 0 z))
        ∙ ap effect (sym o ∙ q)
    go _ (again l o n) =
        sym (cond-false (nat_eq (depth log e.thread l) 0) (Opens l) Inner (ne_eqb _ 0 n))
        ∙ ap effect (sym o ∙ q)
    go _ (closes l o z) =
        sym (cond-true (nat_eq (depth log e.thread l) 1) (Closes l) Inner (eq-eqb _ 1 z))
        ∙ ap effect (sym o ∙ q)
    go _ (inner l o n) =
        sym (cond-false (nat_eq (depth log e.thread l) 1) (Closes l) Inner (ne_eqb _ 1 n))
        ∙ ap effect (sym o ∙ q)

-- the depth after an event that is neither
pub depth_same : (log : List Event) (e : Event) (u : ThreadId) (l : LockId)
    → (e.thread ≡ u → e.op ≡ Acquire l → ⊥) → (e.thread ≡ u → e.op ≡ Release l → ⊥)
    → depth (log ++ e ∷ []) u l ≡ depth log u l
unfolding depth
depth_same log e u l na nr =
    let a = count_with (acquires u l) log e false
    (false_from_ne_true _ (λ t. let is = acquires_is u l e t in na is.0 is.1)) in
    let r = count_with (releases u l) log e false
    (false_from_ne_true _ (λ t. let is = releases_is u l e t in nr is.0 is.1)) in
    omega arith

-- the first events of a log with one more, as many as there are, are all of it
pub whole : (log : List Event) (e : Event) → take (suc (length log)) (log ++ e ∷ []) ≡ log ++ e ∷ []
whole log e = take_all (suc (length log)) (log ++ e ∷ []) (let g = grown_length log e in omega arith)

-- an acquire adds one to its thread's depth
pub depth_up : (log : List Event) (e : Event) (l : LockId) → Orderly (log ++ e ∷ []) → e.op ≡ Acquire l
    → depth (log ++ e ∷ []) e.thread l ≡ depth log e.thread l + 1
depth_up log e l w o =
    sym (ap (λ xs. depth xs e.thread l) (whole log e))
    ∙ depth_acquire (log ++ e ∷ []) (length log) e.thread l w (last_as log e o)
    ∙ ap (λ xs. depth xs e.thread l + 1) (take-append_seam log (e ∷ []))

-- a release takes one from its thread's depth
pub depth_down : (log : List Event) (e : Event) (l : LockId) → e.op ≡ Release l
    → depth (log ++ e ∷ []) e.thread l ≡ depth log e.thread l - 1
unfolding depth
depth_down log e l o =
    let t = does_release e.thread l e refl o in
    let none = false_from_ne_true (acquires e.thread l e)
    (λ a. let b = not_both e.thread l e a in cc) in
    let a = count_with (acquires e.thread l) log e false none in
    let r = count_with (releases e.thread l) log e true t in
    omega arith

-- a beginning of the log is one of the log with one more event
pub front : (log : List Event) (e : Event) (k : ℕ) → k ≤ length log → take k (log ++ e ∷ []) ≡ take k log
front log e k le = take-append-le k log (e ∷ []) le

-- the last event as an outer one
pub last_closes : (log : List Event) (e : Event) (l : LockId) → e.op ≡ Release l → depth log e.thread l ≡ 1
    → OuterRelease (log ++ e ∷ []) (length log) e.thread l
last_closes log e l o d = record {
  does = last_as log e o;
  outer = ap (λ xs. depth xs e.thread l) (whole log e) ∙ depth_down log e l o ∙ ap (λ n. n - 1) d;
}

-- an acquire at depth 0 is outer
pub last_opens : (log : List Event) (e : Event) (l : LockId) → e.op ≡ Acquire l → depth log e.thread l ≡ 0
    → OuterAcquire (log ++ e ∷ []) (length log) e.thread l
last_opens log e l o d = record {
  does = last_as log e o;
  outer = ap (λ xs. depth xs e.thread l) (take-append_seam log (e ∷ [])) ∙ d;
}

-- a release of a lock that is held is outer only where the depth was one
pub closes_at_one : (log : List Event) (e : Event) (l : LockId) → Orderly (log ++ e ∷ [])
    → OuterRelease (log ++ e ∷ []) (length log) e.thread l → depth log e.thread l ≡ 1
closes_at_one log e l w r =
    let held = subst (λ xs. 0 < depth xs e.thread l) (take-append_seam log (e ∷ []))
    (w.held_at_release (length log) e.thread l r.does) in
    let down = depth_down log e l (does_op (last_does log e) r.does) in
    let out = sym (ap (λ xs. depth xs e.thread l) (whole log e)) ∙ r.outer in
    omega arith
