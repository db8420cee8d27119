-- The closed sections of each lock, after an event.
use Rattle.std.proofs.Common.{◌≡◌, ℕ, ◌+◌, List, [], ◌∷◌, ◌++◌, length, refl, sym, subst, ◌⊎◌, take}
use mathlib.Core.Logic.{inl, inr}
use Rattle.event_core.specs.declared.events.Event.{Event}
use Rattle.event_core.specs.declared.ids.LockId.{LockId}
use Rattle.event_core.specs.declared.ids.ThreadId.{ThreadId}
use Rattle.event_core.specs.Closed.{Closed, Has, IsClosed, ClosedStand, Open}
use Rattle.event_core.specs.Count.{events_of}
use Rattle.event_core.specs.Log.{OuterRelease, Section}
use Rattle.event_core.specs.Order.{Hb}
use Rattle.event_core.specs.Orderly.{Orderly}
use Rattle.event_core.specs.Rows.{with_row, Counted}
use Rattle.event_core.specs.Effect.{Effect, Accesses, Opens, Closes, Forks, Joins, Inner}
use Rattle.event_core.proofs.DepthProperties.{same_lock_id, lock_cases, section_of}
use Rattle.event_core.proofs.RowsAfterProperties.{row_same, row_other}
use Rattle.event_core.proofs.HasProperties.{has_front, has_last, has_split}
use Rattle.event_core.proofs.EffectProperties.{Fits, accesses, opens, closes, forks, joins, again, inner}
use Rattle.event_core.proofs.EffectProperties.{last_closes}
use Rattle.event_core.proofs.OpenSections.{is_closes}
use Rattle.event_core.proofs.ClosedProperties.{each_section, closed_longer, closed_now}
use Rattle.wcp_laws.specs.Standing.{StandsFor}
use Rattle.wcp_laws.specs.State.{State}
use Rattle.wcp_laws.specs.Step.{closed_after}

module _ (log : List Event) (e : Event) (ord : Orderly (log ++ e ∷ [])) (l : LockId) (qs : List Closed)
    (was : ClosedStand log l qs) where
  old_sound : (q : Closed) → Has q qs
      → (u : ThreadId) × (a : ℕ) × (r : ℕ) × IsClosed (log ++ e ∷ []) u l a r q
  old_sound q h = let c = was.sound q h in (c.0, c.1, c.2, closed_longer log e c.0 l c.1 c.2 q c.3)

  -- where the event ends no section on the lock, the list is the same
  closed_same : (OuterRelease (log ++ e ∷ []) (length log) e.thread l → ⊥) → ClosedStand (log ++ e ∷ []) l qs
  closed_same none = record {
    sound = old_sound;
    complete = each_section log e l Entry
        (λ u a r lt x. let c = was.complete u a r x in (c.0, c.1, closed_longer log e u l a r c.0 c.2))
        (λ a x. absurd (none x.closed));
  }
    where
      Entry : ThreadId → ℕ → ℕ → Type 0
      Entry u a r = (q : Closed) × Has q qs × IsClosed (log ++ e ∷ []) u l a r q

  -- and where it ends one, the list has its entry more
  closed_more : (q : Closed) → OuterRelease (log ++ e ∷ []) (length log) e.thread l → q.thread ≡ e.thread.0
      → ((a : ℕ) → Open log e.thread l a → q.position ≡ events_of (take a log) e.thread + 1)
      → Counted (log ++ e ∷ []) (λ i. Hb (log ++ e ∷ []) i (length log)) q.release
      → ClosedStand (log ++ e ∷ []) l (qs ++ q ∷ [])
  closed_more new ended thread position release = record {
    sound = λ q h. sound q (has_split _ qs new h);
    complete = each_section log e l Entry
        (λ u a r lt x. let c = was.complete u a r x in
        (c.0, has_front _ qs (new ∷ []) c.1, closed_longer log e u l a r c.0 c.2))
        (λ a x. (new, has_last qs new, mine a x));
  }
    where
      Entry : ThreadId → ℕ → ℕ → Type 0
      Entry u a r = (q : Closed) × Has q (qs ++ new ∷ []) × IsClosed (log ++ e ∷ []) u l a r q

      mine : (a : ℕ) → Section (log ++ e ∷ []) e.thread l a (length log)
          → IsClosed (log ++ e ∷ []) e.thread l a (length log) new
      mine = closed_now log e ord l new thread position release

      sound : (q : Closed) → Has q qs ⊎ (q ≡ new)
          → (u : ThreadId) × (a : ℕ) × (r : ℕ) × IsClosed (log ++ e ∷ []) u l a r q
      sound q (inl h) = old_sound q h
      sound q (inr same) =
          let x = section_of (log ++ e ∷ []) e.thread l (length log) ord ended in (
            e.thread,
            x.0,
            length log,
            subst (λ y. IsClosed (log ++ e ∷ []) e.thread l x.0 (length log) y) (sym same) (mine x.0 x.1),
          )

-- the lists have the closed sections
pub closed_stand : (log : List Event) (e : Event) → Orderly (log ++ e ∷ []) → (k : Effect) → Fits log e k
    → (g : ℕ → ℕ) → Counted (log ++ e ∷ []) (λ i. Hb (log ++ e ∷ []) i (length log)) g → (s : State)
    → StandsFor log s → (l : LockId) → ClosedStand (log ++ e ∷ []) l (closed_after e.thread.0 k g s l.0)
closed_stand log e ord k fit g is s st l = go k fit
  where
    Goal : List Closed → Type 0
    Goal = ClosedStand (log ++ e ∷ []) l

    no_close : (k : Effect) → Fits log e k → (k ≡ Closes l → ⊥) → Goal (s.closed l.0)
    no_close k f none =
        closed_same log e ord l (s.closed l.0) (st.closed l) (λ c. none (is_closes log e ord k f l c))

    go : (k : Effect) → Fits log e k → Goal (closed_after e.thread.0 k g s l.0)
    go _ (accesses y i o) = no_close (Accesses y i) (accesses y i o) (λ q. cc)
    go _ (opens n o d) = no_close (Opens n) (opens n o d) (λ q. cc)
    go _ (forks u o) = no_close (Forks u) (forks u o) (λ q. cc)
    go _ (joins u o) = no_close (Joins u) (joins u o) (λ q. cc)
    go _ (again n o d) = no_close Inner (again n o d) (λ q. cc)
    go _ (inner n o d) = no_close Inner (inner n o d) (λ q. cc)
    go _ (closes n o d) = by (lock_cases n l)
      where
        -- the entry of the section that the event closes
        entry : Closed
        entry = record { thread = e.thread.0; position = s.opened e.thread.0 n.0; release = g }

        new : List Closed
        new = s.closed n.0 ++ entry ∷ []

        by : (n ≡ l) ⊎ (n ≡ l → ⊥) → Goal (with_row n.0 new s.closed l.0)
        by (inl same) =
            subst (λ (y : LockId). ClosedStand (log ++ e ∷ []) y (with_row n.0 new s.closed y.0)) same
            (subst (ClosedStand (log ++ e ∷ []) n) (sym (row_same n.0 new s.closed))
            (closed_more log e ord n (s.closed n.0) (st.closed n) entry (last_closes log e n o d) refl
            (st.opened e.thread n) is))
        by (inr ne) =
            subst Goal (sym (row_other n.0 new s.closed l.0 (λ q. ne (same_lock_id (sym q)))))
            (no_close (Closes n) (closes n o d) (λ q. ne cc))
