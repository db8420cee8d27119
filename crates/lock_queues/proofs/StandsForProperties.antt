-- The calls keep what the queues stand for.
use Rattle.std.proofs.Common.{◌≡◌, ℕ, ◌<◌, ◌≤◌, ◌+◌, List, [], ◌∷◌, ◌++◌, length, refl, sym, ap, subst, ◌∙◌}
use Rattle.std.proofs.Common.{arith, ◌⊎◌}
use Rattle.std.proofs.lemmas.Option.{slice_get_within}
use Rattle.std.proofs.Math.Seq.{take-append_seam}
use mathlib.Core.Logic.{inl, inr}
use Rattle.event_core.specs.declared.bounds.Limits.{Limits}
use Rattle.event_core.specs.declared.events.Event.{Event}
use Rattle.event_core.specs.declared.events.Op.TheVariants.{Acquire, Release}
use Rattle.event_core.specs.declared.ids.LockId.{LockId}
use Rattle.event_core.specs.declared.ids.ThreadId.{ThreadId}
use Rattle.event_core.specs.Closed.{Closed, OpensSection, EndsSection, ended, number_of}
use Rattle.event_core.specs.Count.{events_of, Past}
use Rattle.event_core.specs.Log.{Of, depth, OuterRelease, Section}
use Rattle.event_core.specs.Order.{Hb}
use Rattle.event_core.specs.Orderly.{Orderly}
use Rattle.event_core.specs.Refusal.{WellFormed}
use Rattle.event_core.specs.Rows.{with_row, Counted}
use Rattle.event_core.specs.Wcp.{Strict}
use Rattle.event_core.proofs.CountsProperties.{rank_below}
use Rattle.event_core.proofs.CountedProperties.{events_grow}
use Rattle.event_core.proofs.DepthProperties.{lock_cases, same_lock_id}
use Rattle.event_core.proofs.EffectProperties.{last_closes}
use Rattle.event_core.proofs.RowsAfterProperties.{row_same, row_other}
use Rattle.event_core.proofs.OrderlyProperties.{orderly}
use Rattle.event_core.proofs.LogProperties.{of_does}
use Rattle.event_core.proofs.OpenPositions.{ArePositions, positions_same, positions_more, positions_less}
use Rattle.event_core.proofs.OpenSections.{ends_at, open_by_depth}
use Rattle.event_core.proofs.PastProperties.{past_longer}
use Rattle.event_core.proofs.SectionNumbers.{number_longer, number_last, ended_none, ended_snoc}
use Rattle.event_core.proofs.ClosedProperties.{each_section}
use Rattle.hb_clocks.specs.Marks.{MarkedEvent, Names}
use Rattle.lock_queues.specs.Queues.{AllQueues, closed_of, opened_of, found_of}
use Rattle.lock_queues.specs.Standing.{AreSections, AreOf, StandsFor, IsOther}
use Rattle.lock_queues.specs.Laws.{SameStand, OthersLeaveThem, HoldersHaveEntered}
use Rattle.lock_queues.proofs.AreSectionsProperties.{sections_same, sections_more}

-- who holds a lock has an event
pub holder_has_events : (log : List Event) (t : ThreadId) (l : LockId) → 0 < depth log t l
    → 0 < events_of log t
holder_has_events log t l up =
    let p = open_by_depth log t l up in
    let lt = rank_below log t p.0 (of_does p.1.opened.does) in
    omega (arith, lt)

module _ (log : List Event) (e : Event) (ord : Orderly (log ++ e ∷ [])) where
  -- what was found is so after the event
  found_longer : (found : ℕ → ℕ → ℕ) → ((t : ThreadId) (l : LockId) → found l.0 t.0 ≤ ended log l)
      → ((t : ThreadId) (l : LockId) (u : ThreadId) (a r : ℕ) → Section log u l a r
      → number_of log l r ≤ found l.0 t.0 → Past log (Strict log) t a)
      → (t : ThreadId) (l : LockId) (u : ThreadId) (a r : ℕ) → Section (log ++ e ∷ []) u l a r
      → number_of (log ++ e ∷ []) l r ≤ found l.0 t.0 → Past (log ++ e ∷ []) (Strict (log ++ e ∷ [])) t a
  found_longer found most was t l =
      each_section log e l Found
      (λ u a r lt x le. let same = number_longer log e l r (omega (arith, lt)) in
      past_longer log e t a (was t l u a r x (omega (arith, same, le))))
      (λ a x le. absurd (let last = number_last log e l in let few = most t l in
      omega (arith, last, few, le)))
    where
      Found : ThreadId → ℕ → ℕ → Type 0
      Found u a r =
          number_of (log ++ e ∷ []) l r ≤ found l.0 t.0 → Past (log ++ e ∷ []) (Strict (log ++ e ∷ [])) t a

  -- an event ends no section twice, and takes none away
  ended_more : (l : LockId) → ended log l ≤ ended (log ++ e ∷ []) l
  ended_more l = let up = ended_snoc log l e in omega (arith, up)

  -- tables with the sections of the longer log and the positions of its open ones
  next : {closed closed' : ℕ → List Closed} {opened opened' found : ℕ → ℕ → ℕ} → AreOf log closed opened found
      → ((l : LockId) → AreSections (log ++ e ∷ []) l (closed' l.0))
      → ArePositions (log ++ e ∷ []) opened' → AreOf (log ++ e ∷ []) closed' opened' found
  next st sections positions = record {
    closed_are = sections;
    opened_are = positions;
    found_are = found_longer _ st.most st.found_are;
    most = λ t l. (let a = st.most t l in let b = ended_more l in omega (arith, a, b));
    none = λ t l z. st.none t l (let up = events_grow log e t in omega (arith, up, z));
  }

  -- an event that neither opens nor ends a section
  pub others_leave : {closed : ℕ → List Closed} {opened found : ℕ → ℕ → ℕ} → IsOther log e
      → AreOf log closed opened found → AreOf (log ++ e ∷ []) closed opened found
  others_leave {closed = closed} {opened = opened} other st =
      next st
      (λ l. sections_same log e ord l (closed l.0) (λ r. other.ends l (ends_at log e ord l r))
      (st.closed_are l))
      (positions_same log e ord opened st.opened_are other.opens)

  -- an event that opens one
  opens_own : {closed : ℕ → List Closed} {opened found : ℕ → ℕ → ℕ} (l : LockId) (n : ℕ)
      → OpensSection log e.thread l e → n ≡ events_of log e.thread + 1 → AreOf log closed opened found
      → AreOf (log ++ e ∷ []) closed (with_row e.thread.0 (with_row l.0 n (opened e.thread.0)) opened) found
  opens_own {closed = closed} {opened = opened} l n is number st =
      next st (λ m. sections_same log e ord m (closed m.0) (λ r. not_ends m (ends_at log e ord m r).op)
      (st.closed_are m))
      (positions_more log e ord opened l n st.opened_are is number)
    where
      not_ends : (m : LockId) → e.op ≡ Release m → ⊥
      not_ends m r = let q : Acquire l ≡ Release m = sym is.op ∙ r in cc

  -- an event that ends one
  ends_own : {closed : ℕ → List Closed} {opened found : ℕ → ℕ → ℕ} (l : LockId) (clock : ℕ → ℕ)
      → EndsSection log e.thread l e → Counted (log ++ e ∷ []) (λ i. Hb (log ++ e ∷ []) i (length log)) clock
      → AreOf log closed opened found
      → AreOf (log ++ e ∷ [])
      (with_row l.0 (closed l.0 ++ record {
        thread = e.thread.0;
        position = opened e.thread.0 l.0;
        release = clock;
      } ∷ []) closed)
      (with_row e.thread.0 (with_row l.0 0 (opened e.thread.0)) opened) found
  ends_own {closed = closed} {opened = opened} l clock is counted st =
      next st (λ m. sections m (lock_cases l m)) (positions_less log e ord opened l st.opened_are is)
    where
      entry : Closed
      entry = record { thread = e.thread.0; position = opened e.thread.0 l.0; release = clock }

      longer_list : List Closed
      longer_list = closed l.0 ++ entry ∷ []

      closes : OuterRelease (log ++ e ∷ []) (length log) e.thread l
      closes = last_closes log e l is.op is.outer

      sections : (m : LockId) → (l ≡ m) ⊎ (l ≡ m → ⊥)
          → AreSections (log ++ e ∷ []) m (with_row l.0 longer_list closed m.0)
      sections m (inl same) =
          subst (λ (y : LockId). AreSections (log ++ e ∷ []) y (with_row l.0 longer_list closed y.0)) same
          (subst (λ qs. AreSections (log ++ e ∷ []) l qs) (sym (row_same l.0 longer_list closed))
          (sections_more log e ord l (closed l.0) entry closes refl (λ a p. st.opened_are e.thread l a p)
          counted (st.closed_are l)))
      sections m (inr ne) =
          subst (λ qs. AreSections (log ++ e ∷ []) m qs)
          (sym (row_other l.0 longer_list closed m.0 (λ q. ne (same_lock_id (sym q)))))
          (sections_same log e ord m (closed m.0) (λ r. ne (
          let q : Release l ≡ Release m = sym is.op ∙ (ends_at log e ord m r).op in cc)) (st.closed_are m))

-- tables that are the same are of the same log
pub same_are : {log : List Event} {closed closed' : ℕ → List Closed} {opened opened' found found' : ℕ → ℕ → ℕ}
    → closed' ≡ closed → opened' ≡ opened → found' ≡ found → AreOf log closed opened found
    → AreOf log closed' opened' found'
same_are {log = log} {closed' = closed'} {opened = opened} {opened' = opened'} {found = found} c o f are =
    subst (λ g. AreOf log closed' opened' g) (sym f)
    (subst (λ g. AreOf log closed' g found) (sym o) (subst (λ g. AreOf log g opened found) (sym c) are))

-- tables without sections are of the empty log
pub nothing_stands : {closed : ℕ → List Closed} {opened found : ℕ → ℕ → ℕ} → closed ≡ (λ _. [])
    → opened ≡ (λ _ _. 0) → found ≡ (λ _ _. 0) → AreOf [] closed opened found
nothing_stands c o f = same_are c o f (record {
  closed_are = λ l. record {
    count = sym (none_ended l);
    each = λ u a r s. absurd (never (of_does s.closed.does));
  };
  opened_are = λ t l a p. absurd (never (of_does p.opened.does));
  found_are = λ t l u a r s le. absurd (never (of_does s.closed.does));
  most = λ t l. omega arith;
  none = λ t l z. refl;
})
  where
    never : {i : ℕ} {u : ThreadId} → Of [] i u → ⊥
    never {i = i} o = let lt : i < 0 = slice_get_within [] i o.event o.at in omega arith

    none_ended : (l : LockId) → ended [] l ≡ 0
    none_ended l = ended_none [] l

-- so are those that hold the same
pub same_stand : SameStand
same_stand log old new same st = same_are same.closed same.opened same.found st

-- the law: queues stand for the longer log where the event opens and ends no section
pub others_leave_them : OthersLeaveThem
others_leave_them limits log e v w other st =
    others_leave log e (orderly limits (log ++ e ∷ []) w) other st

-- an outer acquire that enters makes the queues stand for the longer log
pub enter_stands : {closed : ℕ → List Closed} {opened found : ℕ → ℕ → ℕ} (limits : Limits) (log : List Event)
    (e : Event) (old : AllQueues) (t : ThreadId) (l : LockId) (mark : MarkedEvent) → closed ≡ closed_of old
    → opened ≡ with_row t.0 (with_row l.0 mark.position (opened_of old t.0)) (opened_of old)
    → found ≡ found_of old → WellFormed limits (log ++ e ∷ []) → OpensSection log t l e
    → Names (log ++ e ∷ []) mark t (length log) → StandsFor log old
    → AreOf (log ++ e ∷ []) closed opened found
enter_stands limits log e old t l mark c o f w is names st =
    let number : mark.position ≡ events_of log t + 1
    = names.position ∙ ap (λ xs. events_of xs t + 1) (take-append_seam log (e ∷ [])) in
    same_are c o f
    (subst (λ (u : ThreadId). AreOf (log ++ e ∷ []) (closed_of old)
    (with_row u.0 (with_row l.0 mark.position (opened_of old u.0)) (opened_of old)) (found_of old)) is.thread
    (opens_own log e (orderly limits (log ++ e ∷ []) w) l mark.position
    (record { thread = refl; op = is.op; outer = subst (λ u. depth log u l ≡ 0) (sym is.thread) is.outer })
    (number ∙ sym (ap (λ u. events_of log u + 1) is.thread)) st))

-- a closing release that leaves makes the queues stand for the longer log
pub leave_stands : {closed : ℕ → List Closed} {opened found : ℕ → ℕ → ℕ} (limits : Limits) (log : List Event)
    (e : Event) (old : AllQueues) (t : ThreadId) (l : LockId) (clock : ℕ → ℕ)
    → closed ≡ with_row l.0 (closed_of old l.0 ++ record {
      thread = t.0;
      position = opened_of old t.0 l.0;
      release = clock;
    } ∷ []) (closed_of old)
    → opened ≡ with_row t.0 (with_row l.0 0 (opened_of old t.0)) (opened_of old)
    → found ≡ found_of old → WellFormed limits (log ++ e ∷ []) → EndsSection log t l e
    → Counted (log ++ e ∷ []) (λ i. Hb (log ++ e ∷ []) i (length log)) clock
    → StandsFor log old → AreOf (log ++ e ∷ []) closed opened found
leave_stands limits log e old t l clock c o f w is counted st =
    same_are c o f
    (subst (λ (u : ThreadId). AreOf (log ++ e ∷ [])
    (with_row l.0 (closed_of old l.0 ++ record {
      thread = u.0;
      position = opened_of old u.0 l.0;
      release = clock;
    } ∷ []) (closed_of old))
    (with_row u.0 (with_row l.0 0 (opened_of old u.0)) (opened_of old)) (found_of old)) is.thread
    (ends_own log e (orderly limits (log ++ e ∷ []) w) l clock
    (record { thread = refl; op = is.op; outer = subst (λ u. depth log u l ≡ 1) (sym is.thread) is.outer })
    counted st))

-- a thread that holds a lock has entered its section
pub holders_have_entered : HoldersHaveEntered
holders_have_entered log v t l up st =
    let p = open_by_depth log t l up in
    let at = st.opened_are t l p.0 p.1 in
    omega (arith, at)
