-- The closed sections of other threads with an access, after an event, and those that it meets by rule (a).
use Rattle.std.proofs.Common.{◌≡◌, ℕ, ◌<◌, ◌≤◌, List, [], ◌∷◌, ◌++◌, Bool, not, ◌&&◌}
use Rattle.std.proofs.Common.{length, refl, sym, ap, subst, ◌∙◌, arith, ◌⊎◌, ◌↔◌, nat_eq}
use Rattle.std.proofs.lemmas.Bool.{and_from, and_parts, eqb-true, eq-eqb}
use Rattle.std.proofs.lemmas.Option.{slice_get_within}
use Rattle.std.proofs.Math.Seq.{take-length}
use Rattle.std.specs.Prelude.{IsTrue}
use mathlib.Core.Logic.{inl, inr}
use Rattle.event_core.proofs.Words.{AccessKind, Read, Write, Event, Op, Load, Store, Release, LockId}
use Rattle.event_core.proofs.Words.{ThreadId, VarId}
use Rattle.event_core.specs.Closed.{Noted, OtherSection, Others}
use Rattle.event_core.specs.Log.{Does, depth, OuterRelease, Section, InSection, OpsConflict}
use Rattle.event_core.specs.Order.{Hb}
use Rattle.event_core.specs.Orderly.{Orderly}
use Rattle.event_core.specs.Effect.{access_of}
use Rattle.event_core.specs.Wcp.{Meets}
use Rattle.event_core.proofs.Accesses.{access_no_release}
use Rattle.event_core.proofs.CountedProperties.{is_last, last_of, last_does, last_as, last_thread, last_op}
use Rattle.event_core.proofs.DepthProperties.{Opener, opener, same_lock_id, same_thread_id}
use Rattle.event_core.proofs.LogProperties.{of_does, of_one, does_op, does_thread}
use Rattle.event_core.proofs.OpenSections.{closing_open, closing_section, ends_at}
use Rattle.event_core.proofs.ClosedProperties.{section_within}
use Rattle.event_core.proofs.RelationsStay.{longer, back, of, does, acquire, section_too}
use Rattle.event_core.proofs.BoolProperties.{negated, not_negated}

-- what happens before the end of such a section, by the section
pub other_of : {log : List Event} {l : LockId} {x : VarId} {k : AccessKind} {t : ThreadId} {i : ℕ}
    → (q : Others log l x k t i) → OtherSection log l x k t q.release
other_of q = record {
  thread = q.thread;
  other = q.other;
  acquire = q.acquire;
  section = q.section;
  access = q.access;
  from = q.from;
  to = q.to;
  does = q.does;
}

-- a section of another thread whose release happens before an event is among those of the event
pub others_by : {log : List Event} {l : LockId} {x : VarId} {k : AccessKind} {t : ThreadId} {r i : ℕ}
    → OtherSection log l x k t r → Hb log i r → Others log l x k t i
others_by {r = r} q below = record {
  thread = q.thread;
  other = q.other;
  acquire = q.acquire;
  release = r;
  section = q.section;
  access = q.access;
  from = q.from;
  to = q.to;
  does = q.does;
  below = below;
}

-- what conflicts with an access is an access of its variable
conflicting : (p : Op) (x : VarId) (k : AccessKind) → OpsConflict p (access_of x k)
    → (j : AccessKind) × (p ≡ access_of x j)
conflicting (Load y) x Write c = (Read, ap Load c)
conflicting (Store y) x Read c = (Write, ap Store c)
conflicting (Store y) x Write c = (Write, ap Store c)
conflicting _ x k c = absurd c

module _ (log : List Event) (e : Event) where
  -- a section that the event meets is another thread's, with an access that conflicts
  pub meets_other : (x : VarId) (k : AccessKind) (r : ℕ) → e.op ≡ access_of x k
      → (m : Meets (log ++ e ∷ []) r (length log))
      → (j : AccessKind) × OpsConflict (access_of x j) (access_of x k)
      × OtherSection log m.lock x j e.thread r
  meets_other x k r o m = (
    c.0,
    subst (λ q. OpsConflict q (access_of x k)) c.1 ops,
    record {
      thread = s.thread;
      other = λ q. m.conflict.threads (by ∙ q ∙ does_thread (last_does log e) m.conflict.does_second);
      acquire = s.acquire;
      section = section_too (back (longer log (e ∷ []))) m.before s.section;
      access = m.access;
      from = s.from;
      to = s.to;
      does =
          subst (λ q. Does log m.access s.thread q) c.1
          (subst (λ v. Does log m.access v m.conflict.first) by
          (does (back (longer log (e ∷ [])))
          (let to : m.access ≤ r = s.to in omega arith)
          m.conflict.does_first));
    },
  )
    where
      ops : OpsConflict m.conflict.first (access_of x k)
      ops =
          subst (λ q. OpsConflict m.conflict.first q)
          (does_op m.conflict.does_second (last_does log e) ∙ o) m.conflict.ops

      c : (j : AccessKind) × (m.conflict.first ≡ access_of x j)
      c = conflicting m.conflict.first x k ops

      s : InSection (log ++ e ∷ []) m.lock r m.access
      s = m.in_section

      by : m.conflict.by ≡ s.thread
      by = of_one (of_does m.conflict.does_first) s.of

  -- and it meets each such section on a lock that its thread holds
  pub other_meets : (l : LockId) (x : VarId) (k j : AccessKind) (r : ℕ) → e.op ≡ access_of x k
      → 0 < depth log e.thread l → OpsConflict (access_of x j) (access_of x k)
      → OtherSection log l x j e.thread r → (m : Meets (log ++ e ∷ []) r (length log)) × (m.lock ≡ l)
  other_meets l x k j r o held c q = (
    record {
      before = lt;
      lock = l;
      thread = e.thread;
      acquire = p.index;
      inside = record {
        opened = acquire (longer log (e ∷ [])) p.below p.opened;
        of = last_of log e;
        from = (let b : p.index < length log = p.below in omega arith);
        held =
            λ n a b. subst (λ xs. 0 < depth xs e.thread l) ((longer log (e ∷ [])).fronts n b) (p.held n a b);
      };
      access = q.access;
      in_section = record {
        thread = q.thread;
        acquire = q.acquire;
        section = section_too (longer log (e ∷ [])) lt q.section;
        of = of (longer log (e ∷ [])) reached (of_does q.does);
        from = q.from;
        to = q.to;
      };
      conflict = record {
        first = access_of x j;
        second = access_of x k;
        by = q.thread;
        other = e.thread;
        does_first = does (longer log (e ∷ [])) reached q.does;
        does_second = last_as log e o;
        ops = c;
        threads = q.other;
      };
    },
    refl,
  )
    where
      lt : r < length log
      lt = section_within q.section

      reached : q.access < length log
      reached = let to : q.access ≤ r = q.to in let b = lt in omega arith

      p : Opener log e.thread l (length log)
      p =
          opener log e.thread l (length log) (omega arith)
          (subst (λ xs. 0 < depth xs e.thread l) (sym (take-length log)) held)

  -- the event ends another thread's section with the access
  pub record Leaves (l : LockId) (x : VarId) (k : AccessKind) (t : ThreadId) : Type 0 where
    pub closes : OuterRelease (log ++ e ∷ []) (length log) e.thread l
    pub other : e.thread ≡ t → ⊥
    pub noted : Noted log e.thread l x k

  -- what has ended has ended in the longer log
  pub other_old : (l : LockId) (x : VarId) (k : AccessKind) (t : ThreadId) (r : ℕ)
      → OtherSection log l x k t r → OtherSection (log ++ e ∷ []) l x k t r
  other_old l x k t r q = record {
    thread = q.thread;
    other = q.other;
    acquire = q.acquire;
    section = section_too (longer log (e ∷ [])) (section_within q.section) q.section;
    access = q.access;
    from = q.from;
    to = q.to;
    does = does (longer log (e ∷ [])) (slice_get_within log q.access q.does.event q.does.at) q.does;
  }

module _ (log : List Event) (e : Event) (ord : Orderly (log ++ e ∷ [])) where
  -- and so has what the event ends
  pub other_new : (l : LockId) (x : VarId) (k : AccessKind) (t : ThreadId) → Leaves log e l x k t
      → OtherSection (log ++ e ∷ []) l x k t (length log)
  other_new l x k t q =
      let n = q.noted in
      let lt : n.access < length log = slice_get_within log n.access n.does.event n.does.at in
      record {
        thread = e.thread;
        other = q.other;
        acquire = n.acquire;
        section = closing_section log e ord l n.acquire n.is_open q.closes;
        access = n.access;
        from = n.from;
        to = omega arith;
        does = does (longer log (e ∷ [])) lt n.does;
      }

  -- nothing else has
  pub other_split : (l : LockId) (x : VarId) (k : AccessKind) (t : ThreadId) (r : ℕ)
      → OtherSection (log ++ e ∷ []) l x k t r
      → OtherSection log l x k t r ⊎ ((r ≡ length log) × Leaves log e l x k t)
  other_split l x k t r q = elim (is_last log e r q.thread (of_does q.section.closed.does)) [
    | inl lt ↦ inl (record {
      thread = q.thread;
      other = q.other;
      acquire = q.acquire;
      section = section_too (back (longer log (e ∷ []))) lt q.section;
      access = q.access;
      from = q.from;
      to = q.to;
      does = does (back (longer log (e ∷ []))) (omega arith) q.does;
    })
    | inr at ↦
        let th = last_thread log e r q.thread at (of_does q.section.closed.does) in
        let s : Section (log ++ e ∷ []) e.thread l q.acquire (length log)
        = subst (λ v. Section (log ++ e ∷ []) v l q.acquire (length log)) (sym th)
        (subst (λ n. Section (log ++ e ∷ []) q.thread l q.acquire n) at q.section) in
        let before : q.access < length log = elim (is_last log e q.access q.thread (of_does q.does)) [
          | inl lt ↦ lt
          | inr last ↦ absurd (access_no_release x k l
              (sym (last_op log e q.access q.thread (access_of x k) last q.does)
              ∙ does_op (last_does log e) s.closed.does))
        ] in
        inr (
          at,
          record {
            closes = s.closed;
            other = λ p. q.other (sym th ∙ p);
            noted = record {
              acquire = q.acquire;
              is_open = (closing_open log e ord e.thread l q.acquire s).1;
              access = q.access;
              from = q.from;
              does = does (back (longer log (e ∷ []))) before
                  (subst (λ v. Does (log ++ e ∷ []) q.access v (access_of x k)) (sym th) q.does);
            };
          },
        )
  ]

  -- whether the end of a section is that of such a one
  pub leaves_test : (n : LockId) → OuterRelease (log ++ e ∷ []) (length log) e.thread n
      → (l : LockId) (x : VarId) (k : AccessKind) (t : ThreadId) (was : Bool)
      → IsTrue was ↔ Noted log e.thread l x k
      → IsTrue (nat_eq l.0 n.0 && (not (nat_eq t.0 e.thread.0) && was)) ↔ Leaves log e l x k t
  leaves_test n closes l x k t was is = (
    λ h. (
        let a = and_parts _ _ h in
        let b = and_parts _ _ a.1 in
        record {
          closes =
              subst (λ y. OuterRelease (log ++ e ∷ []) (length log) e.thread y)
              (same_lock_id (sym (eqb-true l.0 n.0 a.0))) closes;
          other = λ q. not_negated (eq-eqb t.0 e.thread.0 (ap (λ (v : ThreadId). v.0) (sym q))) b.0;
          noted = is.0 b.1;
        }),
    λ q. (
        let r : Release n ≡ Release l
        = sym (ends_at log e ord n closes).op ∙ (ends_at log e ord l q.closes).op in
        let same : n ≡ l = cc in
        and_from _ _ (eq-eqb l.0 n.0 (ap (λ (y : LockId). y.0) (sym same)))
        (and_from _ _
        (negated (nat_eq t.0 e.thread.0) (λ p. q.other (same_thread_id (sym (eqb-true t.0 e.thread.0 p)))))
        (is.1 q.noted))),
  )
