-- One step of the clocks of program order, as sets: what is below the event that a log grows by.
use Rattle.std.proofs.Common.{◌≡◌, ℕ, ◌<◌, ◌≤◌, List, [], ◌∷◌, ◌++◌, length, sym, subst, arith, inl, inr, ◌⊎◌}
use Rattle.event_core.specs.declared.ids.ThreadId.{ThreadId}
use Rattle.event_core.specs.declared.ids.LockId.{LockId}
use Rattle.event_core.specs.declared.events.Event.{Event}
use Rattle.event_core.specs.declared.events.Op.TheVariants.{Fork, Join}
use Rattle.event_core.specs.Log.{Does, Of}
use Rattle.event_core.specs.Order.{Po, ProgramEdge, here, step, same_thread, fork_to_event, fork_to_join}
use Rattle.event_core.specs.Order.{event_to_join}
use Rattle.event_core.specs.Orderly.{Orderly}
use Rattle.event_core.specs.Refusal.{WellFormed}
use Rattle.event_core.specs.declared.bounds.Limits.{Limits}
use Rattle.event_core.specs.Count.{Past}
use Rattle.event_core.specs.Effect.{Effect}
use Rattle.event_core.specs.Rows.{Counted}
use Rattle.event_core.proofs.OrderProperties.{po_forward}
use Rattle.event_core.proofs.LogProperties.{of_one, of_does, does_op}
use Rattle.event_core.proofs.RelationsStay.{longer, back, of, po_too}
use Rattle.event_core.proofs.CountedProperties.{counted_same, counted_longer, last_of, last_does, is_last}
use Rattle.event_core.proofs.CountedProperties.{last_thread, last_op}
use Rattle.event_core.proofs.EffectProperties.{Fits, accesses, opens, closes, forks, joins, again, inner}
use Rattle.event_core.proofs.RowsAfterProperties.{Leads, fresh}
use Rattle.event_core.proofs.ClockAfterProperties.{Brings, join_brings}
use Rattle.event_core.proofs.PastProperties.{Source, source_within, old_source, new_source}

module _ (log : List Event) (e : Event) where
  -- program order has no edge through a lock
  abbrev pub NoLock : LockId → ℕ → Type 0
  NoLock l i = ⊥

  -- the last edge to the event comes from its thread, or from the thread that it joins
  pub po_to : (k : Effect) → Fits log e k → (i : ℕ) → i < length log → Po (log ++ e ∷ []) i (length log)
      → Past log (Po log) e.thread i ⊎ Brings log (Po log) NoLock k i
  po_to k f i lt here = absurd (omega arith)
  po_to k f i lt (step {g = g} c d) = go d
    where
      below : g < length log → Po log i g
      below l = po_too (back (longer log (e ∷ []))) l c

      mine : {u : ThreadId} → Of (log ++ e ∷ []) (length log) u → u ≡ e.thread
      mine o = of_one o (last_of log e)

      go : ProgramEdge (log ++ e ∷ []) g (length log)
          → Past log (Po log) e.thread i ⊎ Brings log (Po log) NoLock k i
      go (same_thread u l a b) =
          inl (
            g,
            old_source log e e.thread g l (inl (subst (λ x. Of (log ++ e ∷ []) g x) (mine b) a)),
            below l,
          )
      go (fork_to_event u v l a b) =
          inl (
            g,
            old_source log e e.thread g l
                (inr (v, subst (λ x. Does (log ++ e ∷ []) g v (Fork x)) (mine b) a)),
            below l,
          )
      go (fork_to_join u v w l a b) =
          inr (join_brings log e (Po log) NoLock u i k f (does_op (last_does log e) b)
          (g, old_source log e u g l (inr (v, a)), below l))
      go (event_to_join u w l a b) =
          inr (join_brings log e (Po log) NoLock u i k f (does_op (last_does log e) b)
          (g, old_source log e u g l (inl a), below l))

  -- from a thread to its next event, and to a join of it
  to_event : (g : ℕ) → g < length log → Source log e.thread g → ProgramEdge (log ++ e ∷ []) g (length log)
  to_event g lt s = go (new_source log e e.thread g lt s)
    where
      go : Source (log ++ e ∷ []) e.thread g → ProgramEdge (log ++ e ∷ []) g (length log)
      go (inl o) = same_thread e.thread lt o (last_of log e)
      go (inr d) = fork_to_event e.thread d.0 lt d.1 (last_of log e)

  to_join : (u : ThreadId) → e.op ≡ Join u → (g : ℕ) → g < length log → Source log u g
      → ProgramEdge (log ++ e ∷ []) g (length log)
  to_join u o g lt s = go (new_source log e u g lt s)
    where
      joins_it : Does (log ++ e ∷ []) (length log) e.thread (Join u)
      joins_it = subst (λ p. Does (log ++ e ∷ []) (length log) e.thread p) o (last_does log e)

      go : Source (log ++ e ∷ []) u g → ProgramEdge (log ++ e ∷ []) g (length log)
      go (inl a) = event_to_join u e.thread lt a joins_it
      go (inr d) = fork_to_join u d.0 e.thread lt d.1 joins_it

  -- the past of the event's thread, and what the event is brought, are ordered before the event
  pub po_from : (k : Effect) → Fits log e k → (i : ℕ)
      → Past log (Po log) e.thread i ⊎ Brings log (Po log) NoLock k i
      → Po (log ++ e ∷ []) i (length log)
  po_from k f i (inl p) =
      let lt : p.0 < length log = source_within log e.thread p.0 p.1 in
      step (po_too (longer log (e ∷ [])) lt p.2) (to_event p.0 lt p.1)
  po_from _ (joins u o) i (inr p) =
      let lt : p.0 < length log = source_within log u p.0 p.1 in
      step (po_too (longer log (e ∷ [])) lt p.2) (to_join u o p.0 lt p.1)
  po_from _ (opens l o d) i (inr p) = absurd p
  po_from _ (accesses x k o) i (inr p) = absurd p
  po_from _ (closes l o d) i (inr p) = absurd p
  po_from _ (forks u o) i (inr p) = absurd p
  po_from _ (again l o d) i (inr p) = absurd p
  po_from _ (inner l o d) i (inr p) = absurd p

  -- a thread's past after the event
  past_old : (t : ThreadId) (i : ℕ) → Past log (Po log) t i → Past (log ++ e ∷ []) (Po (log ++ e ∷ [])) t i
  past_old t i p =
      let lt = source_within log t p.0 p.1 in
      (p.0, new_source log e t p.0 lt p.1, po_too (longer log (e ∷ [])) lt p.2)

  past_last : (t : ThreadId) (i : ℕ) → Leads e t → Po (log ++ e ∷ []) i (length log)
      → Past (log ++ e ∷ []) (Po (log ++ e ∷ [])) t i
  unfolding Leads
  past_last t i (inl a) q = (
    length log,
    inl
        (subst (λ v. Of (log ++ e ∷ []) (length log) v) a (last_of log e)),
    q,
  )
  past_last t i (inr a) q = (
    length log,
    inr (
      e.thread,
      subst (λ p. Does (log ++ e ∷ []) (length log) e.thread p) a
          (last_does log e),
    ),
    q,
  )

  past_split : (t : ThreadId) (i : ℕ) → Past (log ++ e ∷ []) (Po (log ++ e ∷ [])) t i
      → Past log (Po log) t i ⊎ (Leads e t × Po (log ++ e ∷ []) i (length log))
  unfolding Leads
  past_split t i p = go p.1 (cases p.1)
    where
      cases : Source (log ++ e ∷ []) t p.0 → (p.0 < length log) ⊎ (p.0 ≡ length log)
      cases (inl o) = is_last log e p.0 t o
      cases (inr d) = is_last log e p.0 d.0 (of_does d.1)

      go : Source (log ++ e ∷ []) t p.0 → (p.0 < length log) ⊎ (p.0 ≡ length log)
          → Past log (Po log) t i ⊎ (Leads e t × Po (log ++ e ∷ []) i (length log))
      go s (inl lt) = inl (p.0, old_source log e t p.0 lt s, po_too (back (longer log (e ∷ []))) lt p.2)
      go (inl o) (inr is) = inr (
        inl (last_thread log e p.0 t is o),
        subst
            (λ j. Po (log ++ e ∷ []) i j) is p.2,
      )
      go (inr d) (inr is) = inr (
        inr (last_op log e p.0 d.0 (Fork t) is d.1),
        subst
            (λ j. Po (log ++ e ∷ []) i j) is p.2,
      )

  module _ (limits : Limits) (w : WellFormed limits (log ++ e ∷ [])) (ord : Orderly (log ++ e ∷ [])) where
    -- what is below a thread that the event leads is below the event
    past_led : (t : ThreadId) (i : ℕ) → Leads e t → Past log (Po log) t i → Po (log ++ e ∷ []) i (length log)
    unfolding Leads
    past_led t i (inl a) p =
        let lt = source_within log t p.0 p.1 in
        step (po_too (longer log (e ∷ [])) lt p.2)
        (to_event p.0 lt (subst (λ v. Source log v p.0) (sym a) p.1))
    past_led t i (inr a) p = absurd (none p.1)
      where
        none : Source log t p.0 → ⊥
        none (inl o) =
            let lt : p.0 < length log = source_within log t p.0 (inl o) in
            let f : length log < p.0 = ord.fork_first (length log) p.0 t e.thread
            (subst (λ q. Does (log ++ e ∷ []) (length log) e.thread q) a (last_does log e))
            (of (longer log (e ∷ [])) lt o) in
            omega arith
        none (inr d) = fresh limits log e t w a p.0 d.0 d.1

    -- the row of a thread that the event leads, and of another
    pub led_counts : (t : ThreadId) (g : ℕ → ℕ) → Leads e t
        → Counted (log ++ e ∷ []) (λ i. Po (log ++ e ∷ []) i (length log)) g
        → Counted (log ++ e ∷ []) (Past (log ++ e ∷ []) (Po (log ++ e ∷ [])) t) g
    led_counts t g l is =
        counted_same (log ++ e ∷ []) (λ i. Po (log ++ e ∷ []) i (length log))
        (Past (log ++ e ∷ []) (Po (log ++ e ∷ [])) t) g
        (λ i q. past_last t i l q) (λ i p. back_to i (past_split t i p)) is
      where
        back_to : (i : ℕ) → Past log (Po log) t i ⊎ (Leads e t × Po (log ++ e ∷ []) i (length log))
            → Po (log ++ e ∷ []) i (length log)
        back_to i (inl p) = past_led t i l p
        back_to i (inr p) = p.1

  -- a thread that the event does not lead into keeps its clock
  pub other_counts : (t : ThreadId) (g : ℕ → ℕ) → (Leads e t → ⊥) → Counted log (Past log (Po log) t) g
      → Counted (log ++ e ∷ []) (Past (log ++ e ∷ []) (Po (log ++ e ∷ [])) t) g
  other_counts t g n was =
      counted_longer log e (Past log (Po log) t) (Past (log ++ e ∷ []) (Po (log ++ e ∷ [])) t) g
      (λ i p. past_old t i p) (λ i lt p. back_to i (past_split t i p))
      (λ i p. within i (past_split t i p)) was
    where
      back_to : (i : ℕ) → Past log (Po log) t i ⊎ (Leads e t × Po (log ++ e ∷ []) i (length log))
          → Past log (Po log) t i
      back_to i (inl p) = p
      back_to i (inr p) = absurd (n p.0)

      within : (i : ℕ) → Past log (Po log) t i ⊎ (Leads e t × Po (log ++ e ∷ []) i (length log))
          → i < length log
      within i (inl p) =
          let lt : p.0 < length log = source_within log t p.0 p.1 in
          let le : i ≤ p.0 = po_forward p.2 in omega arith
      within i (inr p) = absurd (n p.0)
