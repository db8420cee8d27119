-- How often locks are held, after an event: what stays the same.
use Rattle.std.proofs.Common.{◌≡◌, ◌<◌, List, [], ◌∷◌, ◌++◌, length, sym, ap, subst, ◌∙◌, arith, ◌⊎◌, ◌↔◌}
use Rattle.std.proofs.Math.Seq.{take-append_seam}
use mathlib.Core.Logic.{inl, inr}
use Rattle.event_core.proofs.Words.{AccessKind, Event, Acquire, Release, LockId, ThreadId, VarId}
use Rattle.event_core.specs.Log.{depth}
use Rattle.event_core.specs.Orderly.{Orderly}
use Rattle.event_core.specs.Effect.{Effect, Opens, Closes, access_of}
use Rattle.event_core.proofs.CountedProperties.{last_as}
use Rattle.event_core.proofs.DepthProperties.{thread_cases, lock_cases}
use Rattle.event_core.proofs.EffectProperties.{Fits, accesses, opens, closes, forks, joins, again, inner}
use Rattle.event_core.proofs.EffectProperties.{depth_same, depth_up, depth_down}
use Rattle.event_core.proofs.Accesses.{access_no_acquire, access_no_release}

-- a cell of a table is the one that is written, or another
pub cell_cases : (t u : ThreadId) (l n : LockId) → ((t ≡ u) × (l ≡ n)) ⊎ (t ≡ u → l ≡ n → ⊥)
cell_cases t u l n = elim (thread_cases t u) [
  | inr a ↦ inr (λ p r. a p)
  | inl a ↦ elim (lock_cases l n) [ inl b ↦ inl (a, b) | inr b ↦ inr (λ p q. b q) ]
]

module _ (log : List Event) (e : Event) (ord : Orderly (log ++ e ∷ [])) where
  -- the depth is the same but where the thread acquires or releases the lock
  pub same_at : (u : ThreadId) (l : LockId) (n : LockId) → (e.op ≡ Acquire n) ⊎ (e.op ≡ Release n)
      → (e.thread ≡ u → n ≡ l → ⊥) → depth (log ++ e ∷ []) u l ≡ depth log u l
  same_at u l n (inl o) un = depth_same log e u l (λ t p. un t cc) (λ t p. cc)
  same_at u l n (inr o) un = depth_same log e u l (λ t p. cc) (λ t p. un t cc)

  -- an access changes no depth
  pub depth_access : (x : VarId) (k : AccessKind) → e.op ≡ access_of x k → (u : ThreadId) (l : LockId)
      → depth (log ++ e ∷ []) u l ≡ depth log u l
  depth_access x k o u l =
      depth_same log e u l (λ t p. access_no_acquire x k l (sym o ∙ p))
      (λ t p. access_no_release x k l (sym o ∙ p))

  -- a release is of a lock that is held
  pub held_now : (l : LockId) → e.op ≡ Release l → 0 < depth log e.thread l
  held_now l o =
      subst (λ xs. 0 < depth xs e.thread l) (take-append_seam log (e ∷ []))
      (ord.held_at_release (length log) e.thread l (last_as log e o))

  -- whether a lock is held changes only where a section is opened or closed
  pub held_same : (k : Effect) → Fits log e k → (t : ThreadId) (l : LockId) → (e.thread ≡ t → k ≡ Opens l → ⊥)
      → (e.thread ≡ t → k ≡ Closes l → ⊥) → (0 < depth (log ++ e ∷ []) t l) ↔ (0 < depth log t l)
  held_same k f t l un nc = go k f un nc
    where
      Goal : Type 0
      Goal = (0 < depth (log ++ e ∷ []) t l) ↔ (0 < depth log t l)

      equal : depth (log ++ e ∷ []) t l ≡ depth log t l → Goal
      equal p = (λ h. subst (λ x. 0 < x) p h, λ h. subst (λ x. 0 < x) (sym p) h)

      -- an inner acquire or release of the lock itself
      both : (n : LockId) → (e.op ≡ Acquire n) ⊎ (e.op ≡ Release n) → 0 < depth log e.thread n
          → 0 < depth (log ++ e ∷ []) e.thread n → Goal
      both n o was is = elim (cell_cases e.thread t n l) [
        | inr ne ↦ equal (same_at t l n o ne)
        | inl c ↦ (λ h. here log c was, λ h. here (log ++ e ∷ []) c is)
      ]
        where
          here : (xs : List Event) → (e.thread ≡ t) × (n ≡ l) → 0 < depth xs e.thread n → 0 < depth xs t l
          here xs c h = subst (λ x. 0 < depth xs t x) c.1 (subst (λ v. 0 < depth xs v n) c.0 h)

      go : (k : Effect) → Fits log e k → (e.thread ≡ t → k ≡ Opens l → ⊥) → (e.thread ≡ t → k ≡ Closes l → ⊥)
          → Goal
      go _ (accesses x j o) un nc = equal (depth_access x j o t l)
      go _ (forks u o) un nc = equal (depth_same log e t l (λ p q. cc) (λ p q. cc))
      go _ (joins u o) un nc = equal (depth_same log e t l (λ p q. cc) (λ p q. cc))
      go _ (opens n o d) un nc = equal (same_at t l n (inl o) (λ p q. un p (ap Opens q)))
      go _ (closes n o d) un nc = equal (same_at t l n (inr o) (λ p q. nc p (ap Closes q)))
      go _ (again n o d) un nc =
          let z = d in
          let was : 0 < depth log e.thread n = omega arith in
          let up = depth_up log e n ord o in
          both n (inl o) was (omega arith)
      go _ (inner n o d) un nc =
          let z = d in
          let was = held_now n o in
          let down = depth_down log e n o in
          both n (inr o) was (omega arith)

  -- a lock that is held and not closed is held
  pub still_held : (k : Effect) → Fits log e k → (t : ThreadId) (l : LockId) → 0 < depth log t l
      → (e.thread ≡ t → k ≡ Closes l → ⊥) → 0 < depth (log ++ e ∷ []) t l
  still_held k f t l up nc = (held_same k f t l (never k f) nc).1 up
    where
      never : (k : Effect) → Fits log e k → e.thread ≡ t → k ≡ Opens l → ⊥
      never _ (opens n o d) q r =
          let s : n ≡ l = cc in
          let z : depth log t l ≡ 0
          = subst (λ v. depth log v l ≡ 0) q (subst (λ x. depth log e.thread x ≡ 0) s d) in omega arith
      never _ f q r = cc
