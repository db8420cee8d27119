-- How an event of a well-formed log changes depths, and sections by the releases between.
use Rattle.std.proofs.Common.{◌≡◌, ℕ, suc, zero, ◌<◌, ◌≤◌, ◌+◌, ◌-◌, List, [], ◌∷◌, ◌++◌, true, false, length}
use Rattle.std.proofs.Common.{refl, sym, ap, subst, ◌∙◌, arith, take, ◌⊎◌, count_by, slice_get, Some}
use Rattle.std.proofs.lemmas.Bool.{cases_lt, cases_eq, cases_Bool, eq-eqb, eqb-true, and_from, and_parts}
use Rattle.std.proofs.lemmas.Bool.{false_from_ne_true}
use Rattle.std.proofs.lemmas.Option.{slice_get_within}
use mathlib.Core.Logic.{inl, inr}
use Rattle.event_core.proofs.Words.{ThreadId, LockId, Event, Acquire, Release}
use Rattle.event_core.specs.Log.{Does, Of, depth, acquires, releases, op_acquires, op_releases, OuterAcquire}
use Rattle.event_core.specs.Log.{OuterRelease, Inside}
use Rattle.event_core.specs.Orderly.{Orderly}
use Rattle.event_core.proofs.DepthProperties.{event_at, take_event, each_front, count_snoc, count_with}
use Rattle.event_core.proofs.DepthProperties.{same_thread_id, acquires_is, op_releases_is}

-- an event that passes the test for a thread's releases of a lock is one
pub releases_is : (u : ThreadId) (l : LockId) (e : Event) → releases u l e ≡ true
    → (e.thread ≡ u) × (e.op ≡ Release l)
releases_is u l e h =
    let p = and_parts _ _ h in (same_thread_id (eqb-true e.thread.0 u.0 p.0), op_releases_is l e.op p.1)

-- a thread's release of a lock passes the test for it
pub does_release : (u : ThreadId) (l : LockId) (e : Event) → e.thread ≡ u → e.op ≡ Release l
    → releases u l e ≡ true
does_release u l e t o =
    and_from _ _ (eq-eqb e.thread.0 u.0 (ap (λ (x : ThreadId). x.0) t)) (ap (op_releases l) o
    ∙ eq-eqb l.0 l.0 refl)

-- a thread's acquire of a lock passes the test for it
pub does_acquire : (u : ThreadId) (l : LockId) (e : Event) → e.thread ≡ u → e.op ≡ Acquire l
    → acquires u l e ≡ true
does_acquire u l e t o =
    and_from _ _ (eq-eqb e.thread.0 u.0 (ap (λ (x : ThreadId). x.0) t)) (ap (op_acquires l) o
    ∙ eq-eqb l.0 l.0 refl)

-- no event is both
pub not_both : (u : ThreadId) (l : LockId) (e : Event) → acquires u l e ≡ true → releases u l e ≡ false
not_both u l e a = false_from_ne_true _ (λ r.
    let p = (acquires_is u l e a).1 in
    let q = (releases_is u l e r).1 in
    cc)

-- a thread never released a lock more often than it acquired it
pub balanced : (log : List Event) (u : ThreadId) (l : LockId) → Orderly log → (k : ℕ)
    → count_by (releases u l) (take k log) ≤ count_by (acquires u l) (take k log)
unfolding depth
balanced log u l w =
    each_front (λ xs. count_by (releases u l) xs ≤ count_by (acquires u l) xs) log (omega arith) more
  where
    more : (i : ℕ) (e : Event) → slice_get log i ≡ Some e
        → count_by (releases u l) (take i log) ≤ count_by (acquires u l) (take i log)
        → count_by (releases u l) (take i log ++ e ∷ []) ≤ count_by (acquires u l) (take i log ++ e ∷ [])
    more i e at ih =
        let xs = take i log in
        let a = count_snoc (acquires u l) xs e in
        elim (cases_Bool (releases u l e)) [
          | inl t ↦
              let is = releases_is u l e t in
              let held : 0 < count_by (acquires u l) xs - count_by (releases u l) xs
              = w.held_at_release i u l (record { event = e; at = at; thread = is.0; does = is.1 }) in
              let b = count_with (releases u l) xs e true t in
              omega arith
          | inr f ↦ let b = count_with (releases u l) xs e false f in omega arith
        ]

-- an acquire adds one
pub depth_acquire : (log : List Event) (i : ℕ) (u : ThreadId) (l : LockId) → Orderly log
    → Does log i u (Acquire l) → depth (take (suc i) log) u l ≡ depth (take i log) u l + 1
unfolding depth
depth_acquire log i u l w d =
    let xs = take i log in
    let t = does_acquire u l d.event d.thread d.does in
    let a = count_with (acquires u l) xs d.event true t in
    let r = count_with (releases u l) xs d.event false (not_both u l d.event t) in
    let le = balanced log u l w i in
    subst (λ ys. count_by (acquires u l) ys - count_by (releases u l) ys
    ≡ (count_by (acquires u l) xs - count_by (releases u l) xs) + 1) (sym (take_event log i d.event d.at))
    (omega arith)

-- only a release takes the last one away
pub fallen : (log : List Event) (i : ℕ) (e : Event) (u : ThreadId) (l : LockId) → slice_get log i ≡ Some e
    → 0 < depth (take i log) u l → depth (take (suc i) log) u l ≡ 0 → (e.thread ≡ u) × (e.op ≡ Release l)
unfolding depth
fallen log i e u l at was down = elim (cases_Bool (releases u l e)) [
  | inl t ↦ releases_is u l e t
  | inr f ↦ absurd (
      let a = count_snoc (acquires u l) (take i log) e in
      let r = count_with (releases u l) (take i log) e false f in
      let before : 0 < count_by (acquires u l) (take i log) - count_by (releases u l) (take i log) = was in
      let after = subst (λ ys. count_by (acquires u l) ys - count_by (releases u l) ys ≡ 0)
      (take_event log i e at) down in
      omega arith)
]

-- sections by the releases between: from its outer acquire on, with no outer release of the lock strictly
-- before i
pub inside_from : (log : List Event) (u : ThreadId) (l : LockId) (a i : ℕ) → Orderly log
    → OuterAcquire log a u l → Of log i u → a ≤ i
    → ((k : ℕ) → a < k → k < i → OuterRelease log k u l → ⊥) → Inside log u l a i
inside_from log u l a i w o of_i le none = record { opened = o; of = of_i; from = le; held = held }
  where
    within : i < length log
    within = slice_get_within log i of_i.event of_i.at

    held : (k : ℕ) → a < k → k ≤ i → 0 < depth (take k log) u l
    held zero lt k_le = absurd (omega arith)
    held (suc k) lt k_le = go (cases_eq a k) (λ m. held k m (omega arith))
      where
        go : (a ≡ k) ⊎ (a ≡ k → ⊥) → (a < k → 0 < depth (take k log) u l) → 0 < depth (take (suc k) log) u l
        go (inl e) ih =
            let up = depth_acquire log a u l w o.does in
            subst (λ x. 0 < depth (take (suc x) log) u l) e (omega arith)
        go (inr ne) ih =
            let m : a < k = omega arith in
            let h = ih m in
            elim (cases_lt 0 (depth (take (suc k) log) u l)) [
              | inl up ↦ up
              | inr down ↦
                  let x = event_at log k (omega (arith, within)) in
                  let gone : depth (take (suc k) log) u l ≡ 0 = omega arith in
                  let is = fallen log k x.0 u l x.1 h gone in
                  absurd (none k m (omega arith) (record {
                    does = record { event = x.0; at = x.1; thread = is.0; does = is.1 };
                    outer = gone;
                  }))
            ]

-- between a section's acquire and an event inside the section there is no outer release of the lock
pub inside_to : (log : List Event) (u : ThreadId) (l : LockId) (a i k : ℕ) → Inside log u l a i → a < k
    → k < i → OuterRelease log k u l → ⊥
inside_to log u l a i k h lt lt' r =
    let up = h.held (suc k) (omega arith) lt' in omega arith
