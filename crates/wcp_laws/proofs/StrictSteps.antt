-- What an event adds to the strict clock of its thread, as sets.
use Rattle.std.proofs.Common.{◌≡◌, ℕ, ◌<◌, ◌≤◌, List, [], ◌∷◌, ◌++◌, length, refl, sym, subst, ◌∙◌, arith}
use Rattle.std.proofs.Common.{take, ◌⊎◌}
use Rattle.std.proofs.Math.Seq.{take-append_seam}
use mathlib.Core.Logic.{inl, inr}
use Rattle.event_core.specs.declared.events.AccessKind.{AccessKind}
use Rattle.event_core.specs.declared.events.AccessKind.TheVariants.{Read, Write}
use Rattle.event_core.specs.declared.events.Event.{Event}
use Rattle.event_core.specs.declared.events.Op.TheVariants.{Acquire, Release, Fork, Join}
use Rattle.event_core.specs.declared.ids.LockId.{LockId}
use Rattle.event_core.specs.declared.ids.ThreadId.{ThreadId}
use Rattle.event_core.specs.declared.ids.VarId.{VarId}
use Rattle.event_core.specs.Closed.{Others}
use Rattle.event_core.specs.Count.{Past, LockPast}
use Rattle.event_core.specs.Log.{Does, depth, Section, OpsConflict}
use Rattle.event_core.specs.Order.{Hb}
use Rattle.event_core.specs.Orderly.{Orderly}
use Rattle.event_core.specs.Effect.{Effect, Accesses, Closes, access_of}
use Rattle.event_core.specs.Wcp.{Meets, Strict}
use Rattle.event_core.proofs.CountedProperties.{last_of, last_does}
use Rattle.event_core.proofs.LogProperties.{of_one, does_op}
use Rattle.event_core.specs.Newest.{StrictNew, from_thread, from_join, from_lock, from_access, from_release}
use Rattle.event_core.proofs.StrictNewProperties.{strict_new, new_strict}
use Rattle.event_core.proofs.EffectProperties.{Fits, accesses, opens, closes, forks, joins, again, inner}
use Rattle.event_core.proofs.Accesses.{access_no_acquire, access_no_release, access_no_fork, access_no_join}
use Rattle.event_core.proofs.Accesses.{conflict_access}
use Rattle.event_core.proofs.OtherSections.{meets_other, other_meets, other_of, others_by}
use Rattle.wcp_laws.proofs.MetAccesses.{Met, met_by}
use Rattle.event_core.proofs.ClockAfterProperties.{Brings, join_brings, acquire_brings}

-- an earlier section whose acquire is strictly below the thread
pub record Behind (log : List Event) (t : ThreadId) (l : LockId) (i : ℕ) : Type 0 where
  pub thread : ThreadId
  pub acquire : ℕ
  pub release : ℕ
  pub section : Section log thread l acquire release
  pub counted : Past log (Strict log) t acquire
  pub below : Hb log i release

-- what the event adds to the strict clock of its thread
abbrev pub Adds : List Event → ThreadId → Effect → ℕ → Type 0
Adds log t (Accesses x k) i = (l : LockId) × (0 < depth log t l) × Met log x k t l i
Adds log t (Closes l) i = Behind log t l i
Adds log t k i = Brings log (Strict log) (LockPast log (Strict log)) k i

-- what a join or an outer acquire brings is added
brought_adds : (log : List Event) (t : ThreadId) (k : Effect) (i : ℕ)
    → Brings log (Strict log) (LockPast log (Strict log)) k i
    → Adds log t k i
brought_adds log t (Accesses x k) i p = absurd p
brought_adds log t (Closes l) i p = absurd p
brought_adds log t _ i p = p

module _ (log : List Event) (e : Event) (ord : Orderly (log ++ e ∷ [])) where
  -- what is below a release that an access meets is met under the lock of the two sections
  meets_adds : (x : VarId) (k : AccessKind) (i r : ℕ) → e.op ≡ access_of x k
      → Meets (log ++ e ∷ []) r (length log) → Hb log i r
      → (l : LockId) × (0 < depth log e.thread l) × Met log x k e.thread l i
  meets_adds x k i r o m h =
      let q = meets_other log e x k r o m in
      (m.lock, held, met_by log x k q.0 e.thread m.lock i q.1 (others_by q.2 h))
    where
      thread : m.thread ≡ e.thread
      thread = of_one m.inside.of (last_of log e)

      not_first : m.acquire ≡ length log → ⊥
      not_first is =
          access_no_acquire x k m.lock
          (sym o ∙ does_op (last_does log e)
          (subst (λ j. Does (log ++ e ∷ []) j m.thread (Acquire m.lock)) is m.inside.opened.does))

      held : 0 < depth log e.thread m.lock
      held =
          let from : m.acquire ≤ length log = m.inside.from in
          let ne = not_first in
          let h : 0 < depth (take (length log) (log ++ e ∷ [])) m.thread m.lock
          = m.inside.held (length log) (omega arith) (omega arith) in
          subst (λ v. 0 < depth log v m.lock) thread
          (subst (λ xs. 0 < depth xs m.thread m.lock) (take-append_seam log (e ∷ [])) h)

  -- and what is met under a lock that the thread holds strictly precedes the access
  adds_meets : (x : VarId) (k j : AccessKind) (l : LockId) (i : ℕ) → e.op ≡ access_of x k
      → 0 < depth log e.thread l → OpsConflict (access_of x j) (access_of x k)
      → Others log l x j e.thread i → Strict (log ++ e ∷ []) i (length log)
  adds_meets x k j l i o held c q =
      new_strict log e i ord
      (from_access q.release (other_meets log e l x k j q.release o held c (other_of q)).0 q.below)

  -- only an access meets a release
  access_adds : (k : Effect) → Fits log e k → (i r : ℕ) → Meets (log ++ e ∷ []) r (length log)
      → Hb log i r → Adds log e.thread k i
  access_adds k f i r m h = go (conflict_access m.conflict.first m.conflict.second m.conflict.ops)
    where
      second : m.conflict.second ≡ e.op
      second = does_op m.conflict.does_second (last_does log e)

      go : (x : VarId) × (j : AccessKind) × (m.conflict.second ≡ access_of x j) → Adds log e.thread k i
      go c = by k f (sym second ∙ c.2)
        where
          by : (k : Effect) → Fits log e k → e.op ≡ access_of c.0 c.1 → Adds log e.thread k i
          by _ (accesses x j o) a = meets_adds x j i r o m h
          by _ (opens l o d) a = absurd (access_no_acquire c.0 c.1 l (sym a ∙ o))
          by _ (closes l o d) a = absurd (access_no_release c.0 c.1 l (sym a ∙ o))
          by _ (again l o d) a = absurd (access_no_acquire c.0 c.1 l (sym a ∙ o))
          by _ (inner l o d) a = absurd (access_no_release c.0 c.1 l (sym a ∙ o))
          by _ (forks u o) a = absurd (access_no_fork c.0 c.1 u (sym a ∙ o))
          by _ (joins u o) a = absurd (access_no_join c.0 c.1 u (sym a ∙ o))

  -- only a closing release comes after an earlier section
  release_adds : (k : Effect) → Fits log e k → (l : LockId) (i : ℕ) → e.op ≡ Release l
      → depth log e.thread l ≡ 1 → Behind log e.thread l i → Adds log e.thread k i
  release_adds _ (closes n o d) l i a z b =
      let h : Release l ≡ Release n = sym a ∙ o in
      let r : l ≡ n = cc in
      subst (λ x. Behind log e.thread x i) r b
  release_adds _ (inner n o d) l i a z b =
      let h : Release l ≡ Release n = sym a ∙ o in
      let r : l ≡ n = cc in
      absurd (d (subst (λ x. depth log e.thread x ≡ 1) r z))
  release_adds _ (accesses x j o) l i a z b = absurd (access_no_release x j l (sym o ∙ a))
  release_adds _ (opens n o d) l i a z b = absurd (let h : Release l ≡ Acquire n = sym a ∙ o in cc)
  release_adds _ (again n o d) l i a z b = absurd (let h : Release l ≡ Acquire n = sym a ∙ o in cc)
  release_adds _ (forks u o) l i a z b = absurd (let h : Release l ≡ Fork u = sym a ∙ o in cc)
  release_adds _ (joins u o) l i a z b = absurd (let h : Release l ≡ Join u = sym a ∙ o in cc)

  -- what strictly precedes the event is in its thread's past, or is added
  pub strict_to : (k : Effect) → Fits log e k → (i : ℕ) → Strict (log ++ e ∷ []) i (length log)
      → Past log (Strict log) e.thread i ⊎ Adds log e.thread k i
  strict_to k f i s = go (strict_new log e i ord s)
    where
      go : StrictNew log e i → Past log (Strict log) e.thread i ⊎ Adds log e.thread k i
      go (from_thread p) = inl p
      go (from_join u o p) =
          inr (brought_adds log e.thread k i
          (join_brings log e (Strict log) (LockPast log (Strict log)) u i k f o p))
      go (from_lock l o z p) =
          inr (brought_adds log e.thread k i
          (acquire_brings log e (Strict log) (LockPast log (Strict log)) l i k f o z p))
      go (from_access r m h) = inr (access_adds k f i r m h)
      go (from_release u l a r o z x p h) =
          inr (release_adds k f l i o z (record {
            thread = u;
            acquire = a;
            release = r;
            section = x;
            counted = p;
            below = h;
          }))

  -- and what is in the past or added strictly precedes it
  pub strict_from : (k : Effect) → Fits log e k → (i : ℕ)
      → Past log (Strict log) e.thread i ⊎ Adds log e.thread k i → Strict (log ++ e ∷ []) i (length log)
  strict_from k f i (inl p) = new_strict log e i ord (from_thread p)
  strict_from _ (accesses x Read o) i (inr p) = adds_meets x Read Write p.0 i o p.1 refl p.2
  strict_from _ (accesses x Write o) i (inr p) = by p.2
    where
      by : Others log p.0 x Read e.thread i ⊎ Others log p.0 x Write e.thread i
          → Strict (log ++ e ∷ []) i (length log)
      by (inl q) = adds_meets x Write Read p.0 i o p.1 refl q
      by (inr q) = adds_meets x Write Write p.0 i o p.1 refl q
  strict_from _ (opens l o d) i (inr p) = new_strict log e i ord (from_lock l o d p)
  strict_from _ (joins u o) i (inr p) = new_strict log e i ord (from_join u o p)
  strict_from _ (closes l o d) i (inr b) =
      new_strict log e i ord
      (from_release b.thread l b.acquire b.release o d b.section b.counted b.below)
  strict_from _ _ i (inr p) = absurd p
