-- How the depth of a lock changes with an event, and who opened a section.
use Rattle.std.proofs.Common.{◌≡◌, ℕ, suc, zero, ◌<◌, ◌≤◌, ◌+◌, List, [], ◌∷◌, ◌++◌, Bool, true, false}
use Rattle.std.proofs.Common.{length, refl, sym, ap, subst, ◌∙◌, arith, take, take_all, cond, ◌⊎◌, get_or}
use Rattle.std.proofs.Common.{nat_eq, ◌&&◌}
use Rattle.std.proofs.lemmas.Bool.{cases_eq, cases_Bool, eqb-true, eq-eqb, and_parts, and_from, both_ways}
use Rattle.std.proofs.lemmas.Option.{slice_get_within, get_or_from_slice_get, slice_get_cases}
use Rattle.std.proofs.lemmas.List.Sums.{sum_by_push}
use Rattle.std.proofs.Math.Seq.{take-suc}
use Rattle.std.specs.List.{count_by}
use Rattle.std.specs.Prelude.{slice_get, Option, Some, None}
use mathlib.Core.Logic.{inl, inr}
use Rattle.event_core.proofs.Words.{ThreadId, LockId, Event, Op, Acquire, Release}
use Rattle.event_core.specs.Log.{Of, depth, acquires, releases, op_acquires, op_releases, OuterAcquire}
use Rattle.event_core.specs.Log.{OuterRelease, Section}
use Rattle.event_core.specs.Orderly.{Orderly}
use Rattle.event_core.proofs.LogProperties.{of_does}
use Rattle.event_core.proofs.LatestIndex.{Crossing, crossing}

-- threads with one number are one thread
pub same_thread_id : {u v : ThreadId} → u.0 ≡ v.0 → u ≡ v
same_thread_id e = ap (λ (n : ℕ). let t : ThreadId = record { 0 = n } in t) e

-- locks with one number are one lock
pub same_lock_id : {u v : LockId} → u.0 ≡ v.0 → u ≡ v
same_lock_id e = ap (λ (n : ℕ). let t : LockId = record { 0 = n } in t) e

-- two threads are the same or not
pub thread_cases : (u v : ThreadId) → (u ≡ v) ⊎ (u ≡ v → ⊥)
thread_cases u v = elim (cases_eq u.0 v.0) [
  | inl e ↦ inl (same_thread_id e)
  | inr n ↦ inr (λ e. n (ap (λ (t : ThreadId). t.0) e))
]

-- two locks are the same or not
pub lock_cases : (u v : LockId) → (u ≡ v) ⊎ (u ≡ v → ⊥)
lock_cases u v = elim (cases_eq u.0 v.0) [
  | inl e ↦ inl (same_lock_id e)
  | inr n ↦ inr (λ e. n (ap (λ (t : LockId). t.0) e))
]

-- the event at an index
pub event_at : (log : List Event) (i : ℕ) → i < length log → (e : Event) × (slice_get log i ≡ Some e)
event_at log i lt = elim (slice_get_cases log i).1 [
  | inl x ↦ (x.0, x.2)
  | inr past ↦ absurd (omega (arith, past.0))
]

-- the log up to and with event i
pub take_event : (log : List Event) (i : ℕ) (e : Event) → slice_get log i ≡ Some e
    → take (suc i) log ≡ take i log ++ e ∷ []
take_event log i e at =
    take-suc log i e (slice_get_within log i e at)
    ∙ ap (λ x. take i log ++ x ∷ []) (get_or_from_slice_get log i e e at)

-- what is so of no events, and stays so at each event of the log, is so of each beginning of the log
pub each_front : (P : List Event → Type 0) (log : List Event) → P []
    → ((i : ℕ) (e : Event) → slice_get log i ≡ Some e → P (take i log) → P (take i log ++ e ∷ []))
    → (k : ℕ) → P (take k log)
each_front P log none more zero = none
each_front P log none more (suc k) = go (slice_get_cases log k).1 (each_front P log none more k)
  where
    go : (((e : Event) × (k < length log) × (slice_get log k ≡ Some e) × (get_or log k e ≡ e))
        ⊎ ((length log ≤ k) × (slice_get log k ≡ None)))
        → P (take k log) → P (take (suc k) log)
    go (inl x) h = subst P (sym (take_event log k x.0 x.2)) (more k x.0 x.2 h)
    go (inr past) h =
        subst P (take_all k log past.0 ∙ sym (take_all (suc k) log (omega (arith, past.0)))) h

-- a count after one more event, where its test is known
pub count_snoc : (p : Event → Bool) (xs : List Event) (e : Event)
    → count_by p (xs ++ e ∷ []) ≡ count_by p xs + cond (p e) 1 0
count_snoc p xs e = sum_by_push (λ x. cond (p x) 1 0) xs e

-- one more event adds one to a count where it passes the test, else nothing
pub count_with : (p : Event → Bool) (xs : List Event) (e : Event) (b : Bool) → p e ≡ b
    → count_by p (xs ++ e ∷ []) ≡ count_by p xs + cond b 1 0
count_with p xs e b is = count_snoc p xs e ∙ ap (λ (t : Bool). count_by p xs + cond t 1 0) is

-- an operation that passes the test for acquires of a lock is one
pub op_acquires_is : (l : LockId) (o : Op) → op_acquires l o ≡ true → o ≡ Acquire l
op_acquires_is l (Acquire n) t = ap Acquire (same_lock_id (eqb-true n.0 l.0 t))
op_acquires_is l _ t = cc

-- an operation that passes the test for releases of a lock is one
pub op_releases_is : (l : LockId) (o : Op) → op_releases l o ≡ true → o ≡ Release l
op_releases_is l (Release n) t = ap Release (same_lock_id (eqb-true n.0 l.0 t))
op_releases_is l _ t = cc

-- an event that passes the test for a thread's acquires of a lock is one
pub acquires_is : (u : ThreadId) (l : LockId) (e : Event) → acquires u l e ≡ true
    → (e.thread ≡ u) × (e.op ≡ Acquire l)
acquires_is u l e h =
    let p = and_parts _ _ h in (same_thread_id (eqb-true e.thread.0 u.0 p.0), op_acquires_is l e.op p.1)

-- only its acquires raise a thread's depth
pub not_risen : (xs : List Event) (e : Event) (u : ThreadId) (l : LockId) → acquires u l e ≡ false
    → depth (xs ++ e ∷ []) u l ≤ depth xs u l
unfolding depth
not_risen xs e u l none =
    let a = count_with (acquires u l) xs e false none in
    let r = count_snoc (releases u l) xs e in
    omega arith

-- a lock that the thread did not hold, and holds after the event, was acquired by it
pub risen : (log : List Event) (i : ℕ) (e : Event) (u : ThreadId) (l : LockId) → slice_get log i ≡ Some e
    → 0 < depth (take (suc i) log) u l → depth (take i log) u l ≡ 0 → (e.thread ≡ u) × (e.op ≡ Acquire l)
risen log i e u l at up was = elim (cases_Bool (acquires u l e)) [
  | inl t ↦ acquires_is u l e t
  | inr f ↦ absurd (
      let le = not_risen (take i log) e u l f in
      let after = subst (λ ys. 0 < depth ys u l) (take_event log i e at) up in
      omega arith)
]

-- before the first event no lock is held
pub depth_nil : (log : List Event) (u : ThreadId) (l : LockId) → depth (take 0 log) u l ≡ 0
unfolding depth
depth_nil log u l = refl

-- the acquire since which the thread holds the lock
pub record Opener (log : List Event) (u : ThreadId) (l : LockId) (k : ℕ) : Type 0 where
  pub index : ℕ
  pub below : index < k
  pub opened : OuterAcquire log index u l
  pub held : (m : ℕ) → index < m → m ≤ k → 0 < depth (take m log) u l

-- where a lock is held, an outer acquire opened it
pub opener : (log : List Event) (u : ThreadId) (l : LockId) (k : ℕ) → k ≤ length log
    → 0 < depth (take k log) u l → Opener log u l k
opener log u l k le h = record { index = p.index; below = p.below; opened = opened; held = p.high }
  where
    p : Crossing (λ n. depth (take n log) u l) 0 k
    p = crossing (λ n. depth (take n log) u l) 0 k (let z = depth_nil log u l in omega arith) h

    none : depth (take p.index log) u l ≡ 0
    none = let low : depth (take p.index log) u l ≤ 0 = p.low in omega arith

    opened : OuterAcquire log p.index u l
    opened =
        let b : p.index < k = p.below in
        let x = event_at log p.index (omega arith) in
        let is = risen log p.index x.0 u l x.1 (p.high (suc p.index) (omega arith) b) none in
        record { does = record { event = x.0; at = x.1; thread = is.0; does = is.1 }; outer = none }

-- each outer release has its section
pub section_of : (log : List Event) (u : ThreadId) (l : LockId) (r : ℕ) → Orderly log → OuterRelease log r u l
    → (a : ℕ) × Section log u l a r
section_of log u l r w o =
    let within : r < length log = slice_get_within log r o.does.event o.does.at in
    let p = opener log u l r (omega arith) (w.held_at_release r u l o.does) in (
      p.index,
      record {
        closed = o;
        inside =
            record {
              opened = p.opened;
              of = of_does o.does;
              from = omega arith;
              held = p.held;
            };
      },
    )

-- whether an event is of a thread
pub of_cases : (log : List Event) (u : ThreadId) (k : ℕ) → Of log k u ⊎ (Of log k u → ⊥)
of_cases log u k = go (slice_get log k) refl
  where
    go : (o : Option Event) → slice_get log k ≡ o → Of log k u ⊎ (Of log k u → ⊥)
    go None e = inr (λ h. let at : slice_get log k ≡ Some h.event = h.at in absurd (cc))
    go (Some x) e = elim (thread_cases x.thread u) [
      | inl same ↦ inl (record { event = x; at = e; thread = same })
      | inr other ↦ inr (λ h. other (let same : Some x ≡ Some h.event = sym e ∙ h.at in cc))
    ]

-- whether an event is an outer release of a lock, by some thread
pub release_cases : (log : List Event) (l : LockId) (k : ℕ) → ((w : ThreadId) × OuterRelease log k w l)
    ⊎ ((w : ThreadId) × OuterRelease log k w l → ⊥)
release_cases log l k = go (slice_get log k) refl
  where
    Yes : Type 0
    Yes = (w : ThreadId) × OuterRelease log k w l

    closes : Event → Bool
    closes x = op_releases l x.op && nat_eq (depth (take (suc k) log) x.thread l) 0

    test : (x : Event) → slice_get log k ≡ Some x → Yes → closes x ≡ true
    test x e h =
        let op : h.1.does.event.op ≡ Release l = h.1.does.does in
        let thread : h.1.does.event.thread ≡ h.0 = h.1.does.thread in
        let op' : x.op ≡ Release l = cc in
        let thread' : h.0 ≡ x.thread = cc in
        and_from _ _ (ap (op_releases l) op' ∙ eq-eqb l.0 l.0 refl)
        (eq-eqb _ 0 (subst (λ w. depth (take (suc k) log) w l ≡ 0) thread' h.1.outer))

    go : (o : Option Event) → slice_get log k ≡ o → Yes ⊎ (Yes → ⊥)
    go None e = inr (λ h. let at : slice_get log k ≡ Some h.1.does.event = h.1.does.at in absurd (cc))
    go (Some x) e = elim (cases_Bool (closes x)) [
      | inl t ↦ let both = and_parts _ _ t in
          inl (
            x.thread,
            record {
              does = record { event = x; at = e; thread = refl; does = op_releases_is l x.op both.0 };
              outer = eqb-true _ 0 both.1;
            },
          )
      | inr f ↦ inr (λ h. both_ways _ f (test x e h))
    ]
