-- The accesses in open sections, after an event: what a table of them has to say.
use Rattle.std.proofs.Common.{◌≡◌, ℕ, ◌<◌, ◌≤◌, List, [], ◌∷◌, ◌++◌, Bool, not, ◌&&◌, ◌||◌}
use Rattle.std.proofs.Common.{length, sym, ap, subst, ◌∙◌, arith, ◌⊎◌, ◌↔◌, nat_eq}
use Rattle.std.proofs.lemmas.Bool.{and_from, and_parts, or_left, or_right, or_cases, eqb-true, eq-eqb}
use Rattle.std.proofs.lemmas.Option.{slice_get_within}
use Rattle.std.specs.Prelude.{IsTrue}
use mathlib.Core.Logic.{inl, inr}
use Rattle.event_core.proofs.Words.{AccessKind, Event, Release, LockId, ThreadId, VarId}
use Rattle.event_core.specs.Closed.{Noted}
use Rattle.event_core.specs.Log.{depth}
use Rattle.event_core.specs.Orderly.{Orderly}
use Rattle.event_core.specs.Effect.{Effect, Closes, access_of}
use Rattle.event_core.proofs.Accesses.{access_no_release, access_one}
use Rattle.event_core.proofs.CountedProperties.{last_as, is_last, last_thread, last_op}
use Rattle.event_core.proofs.DepthProperties.{same_lock_id, same_thread_id}
use Rattle.event_core.proofs.LogProperties.{of_does}
use Rattle.event_core.proofs.RelationsStay.{longer, back, does}
use Rattle.event_core.proofs.EffectProperties.{Fits, closes, depth_down}
use Rattle.event_core.proofs.HeldDepths.{cell_cases, depth_access, still_held}
use Rattle.event_core.proofs.OpenSections.{open_old, open_new, open_held, open_within, open_by_depth}
use Rattle.event_core.proofs.BoolProperties.{negated, not_negated}

-- the lock of what is noted is held
pub noted_held : (xs : List Event) (t : ThreadId) (l : LockId) (x : VarId) (j : AccessKind)
    → Noted xs t l x j → 0 < depth xs t l
noted_held xs t l x j n = open_held xs t l n.acquire n.is_open

same_var : {y z : VarId} → y.0 ≡ z.0 → y ≡ z
same_var q = ap (λ (n : ℕ). let v : VarId = record { 0 = n } in v) q

module _ (log : List Event) (e : Event) (ord : Orderly (log ++ e ∷ [])) where
  -- an access in an open section stood there before the event, or is the event
  noted_to : (t : ThreadId) (l : LockId) (x : VarId) (j : AccessKind) → Noted (log ++ e ∷ []) t l x j
      → Noted log t l x j ⊎ ((e.thread ≡ t) × (e.op ≡ access_of x j))
  noted_to t l x j n = elim (is_last log e n.access t (of_does n.does)) [
    | inr is ↦ inr (
      last_thread log e n.access t is (of_does n.does),
      last_op log e n.access t (access_of x j) is n.does,
    )
    | inl at ↦ inl (record {
      acquire = n.acquire;
      is_open = open_old log e ord t l n.acquire n.is_open
          (omega arith);
      access = n.access;
      from = n.from;
      does = does (back (longer log (e ∷ []))) at n.does;
    })
  ]

  -- what was noted in a section that stays open
  noted_old : (t : ThreadId) (l : LockId) (x : VarId) (j : AccessKind) → Noted log t l x j
      → 0 < depth (log ++ e ∷ []) t l → Noted (log ++ e ∷ []) t l x j
  noted_old t l x j n up = record {
    acquire = n.acquire;
    is_open = open_new log e ord t l n.acquire n.is_open up;
    access = n.access;
    from = n.from;
    does = does (longer log (e ∷ [])) (slice_get_within log n.access n.does.event n.does.at) n.does;
  }

  -- what the event notes
  noted_new : (l : LockId) (x : VarId) (j : AccessKind) → e.op ≡ access_of x j → 0 < depth log e.thread l
      → Noted (log ++ e ∷ []) e.thread l x j
  noted_new l x j o up =
      let p = open_by_depth log e.thread l up in
      record {
        acquire = p.0;
        is_open =
            open_new log e ord e.thread l p.0 p.1
            (subst (λ n. 0 < n) (sym (depth_access log e ord x j o e.thread l)) up);
        access = length log;
        from = (let lt = open_within log e.thread l p.0 p.1 in omega arith);
        does = last_as log e o;
      }

  -- where the event neither is such an access nor ends the section, the same is noted
  pub noted_same : (k : Effect) → Fits log e k → (t : ThreadId) (l : LockId) (x : VarId) (j : AccessKind)
      → (e.thread ≡ t → e.op ≡ access_of x j → ⊥) → (e.thread ≡ t → k ≡ Closes l → ⊥)
      → (was : Bool) → IsTrue was ↔ Noted log t l x j → IsTrue was ↔ Noted (log ++ e ∷ []) t l x j
  noted_same k f t l x j unnoted unclosed was is = (
    λ h. (let n = is.0 h in
        noted_old t l x j n (still_held log e ord k f t l (noted_held log t l x j n) unclosed)),
    λ n. elim (noted_to t l x j n) [ inl m ↦ is.1 m | inr c ↦ absurd (unnoted c.0 c.1) ],
  )

  -- an access is noted, where its thread holds the lock
  pub noted_more : (x : VarId) (k : AccessKind) → e.op ≡ access_of x k
      → (t : ThreadId) (l : LockId) (y : VarId) (j : AccessKind) (was held same : Bool)
      → IsTrue was ↔ Noted log t l y j → IsTrue held ↔ (0 < depth log e.thread l) → IsTrue same ↔ (j ≡ k)
      → IsTrue (was || (nat_eq t.0 e.thread.0 && (held && (nat_eq y.0 x.0 && same))))
      ↔ Noted (log ++ e ∷ []) t l y j
  noted_more x k o t l y j was held same was_is held_is same_is = (
    λ h. elim (or_cases _ _ h) [
      | inl m ↦
          let n = was_is.0 m in
          noted_old t l y j n
          (subst (λ v. 0 < v) (sym (depth_access log e ord x k o t l)) (noted_held log t l y j n))
      | inr m ↦
          let a = and_parts _ _ m in
          let b = and_parts _ _ a.1 in
          let c = and_parts _ _ b.1 in
          let vx : x ≡ y = same_var (sym (eqb-true y.0 x.0 c.0)) in
          let kj : k ≡ j = sym (same_is.0 c.1) in
          subst (λ u. Noted (log ++ e ∷ []) u l y j) (same_thread_id (sym (eqb-true t.0 e.thread.0 a.0)))
          (noted_new l y j (o ∙ ap (λ v. access_of v k) vx ∙ ap (λ v. access_of y v) kj) (held_is.0 b.0))
    ],
    λ n. elim (noted_to t l y j n) [
      | inl m ↦ or_left _ _ (was_is.1 m)
      | inr c ↦
          let one = access_one y x j k (sym c.1 ∙ o) in
          let up = subst (λ m. 0 < m) (depth_access log e ord x k o e.thread l)
          (subst (λ u. 0 < depth (log ++ e ∷ []) u l) (sym c.0) (noted_held (log ++ e ∷ []) t l y j n)) in
          or_right _ _
          (and_from _ _ (eq-eqb t.0 e.thread.0 (ap (λ (v : ThreadId). v.0) (sym c.0)))
          (and_from _ _ (held_is.1 up)
          (and_from _ _ (eq-eqb y.0 x.0 (ap (λ (v : VarId). v.0) one.0)) (same_is.1 one.1))))
    ],
  )

  -- the end of a section takes away what is noted in it
  pub noted_less : (n : LockId) → e.op ≡ Release n → depth log e.thread n ≡ 1
      → (t : ThreadId) (l : LockId) (y : VarId) (j : AccessKind) (was : Bool) → IsTrue was ↔ Noted log t l y j
      → IsTrue (was && not (nat_eq t.0 e.thread.0 && nat_eq l.0 n.0)) ↔ Noted (log ++ e ∷ []) t l y j
  noted_less n o one t l y j was was_is = elim (cell_cases e.thread t n l) [
    | inl c ↦ (
      λ h. absurd (not_negated
          (and_from _ _ (eq-eqb t.0 e.thread.0 (ap (λ (v : ThreadId). v.0) (sym c.0)))
          (eq-eqb l.0 n.0 (ap (λ (v : LockId). v.0) (sym c.1)))) (and_parts _ _ h).1),
      λ m. absurd (
          let down = depth_down log e n o in
          let none = subst (λ v. depth (log ++ e ∷ []) v l ≡ 0) c.0
          (subst (λ v. depth (log ++ e ∷ []) e.thread v ≡ 0) c.1 (omega arith)) in
          let up = noted_held (log ++ e ∷ []) t l y j m in
          omega arith),
    )
    | inr ne ↦
        let same = noted_same (Closes n) (closes n o one) t l y j
        (λ p q. access_no_release y j n (sym q ∙ o)) (λ p q. ne p cc) was was_is in (
          λ h. same.0 (and_parts _ _ h).0,
          λ m. and_from _ _ (same.1 m) (negated _ (λ is.
              let both = and_parts _ _ is in
              ne (same_thread_id (sym (eqb-true t.0 e.thread.0 both.0)))
              (same_lock_id (sym (eqb-true l.0 n.0 both.1))))),
        )
  ]
