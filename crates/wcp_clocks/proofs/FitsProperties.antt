-- A legal event finds the numbers as the step asks.
use Rattle.std.proofs.Common.{◌≡◌, ℕ, zero, suc, ◌<◌, ◌≤◌, ◌+◌, List, [], ◌∷◌, ◌++◌, length, true, false}
use Rattle.std.proofs.Common.{nat_eq, sym, ap, subst, ◌∙◌, inl, inr, ◌⊎◌, ◌↔◌, arith, take}
use Rattle.std.proofs.lemmas.Bool.{cases_Bool, cases_lt, eqb-true}
use Rattle.std.proofs.lemmas.Option.{slice_get_within}
use Rattle.std.proofs.Math.Seq.{take-length}
use Rattle.event_core.specs.declared.bounds.Limits.{Limits}
use Rattle.event_core.specs.declared.bounds.TheConstants.{MOST_EVENTS}
use Rattle.event_core.specs.declared.events.Event.{Event}
use Rattle.event_core.specs.declared.ids.LockId.{LockId}
use Rattle.event_core.specs.declared.ids.ThreadId.{ThreadId}
use Rattle.event_core.specs.declared.ids.VarId.{VarId}
use Rattle.event_core.specs.Closed.{Has, Noted}
use Rattle.event_core.specs.Log.{depth}
use Rattle.event_core.specs.Refusal.{WellFormed, open_acquires}
use Rattle.event_core.proofs.WellFormedProperties.{well_formed_front}
use Rattle.event_core.proofs.OrderlyProperties.{orderly}
use Rattle.event_core.proofs.HasProperties.{any_has}
use Rattle.event_core.proofs.Slots.{slots}
use Rattle.hb_clocks.proofs.StandsForProperties.{admits_legal, few_in_log, events_within}
use Rattle.section_sum.specs.Sums.{IsAlone, noted_of}
use Rattle.event_core.proofs.CountedProperties.{grown_length}
use Rattle.event_core.specs.Effect.{Closes}
use Rattle.wcp_laws.specs.Found.{sum_below}
use Rattle.wcp_laws.proofs.FoundProperties.{closes_after_first}
use Rattle.wcp_laws.specs.Step as wcp
use Rattle.wcp_laws.proofs.IsSoundProperties.{sound_where_legal}
use Rattle.wcp_clocks.specs.Parts.{Parts, hb_of, state_of}
use Rattle.wcp_clocks.specs.HeldLists.{list_at, held_of}
use Rattle.wcp_clocks.specs.Standing.{StandsFor, FitsWhereLegal}
use Rattle.wcp_clocks.proofs.GrownForProperties.{held_numbers}

-- a well-formed log has no more events than there may be
pub log_within : (limits : Limits) (log : List Event) → WellFormed limits log → length log ≤ limits.events
log_within limits log w =
    let room : length log + open_acquires (take (length log) log) ≤ limits.events
    = slots limits log w (length log) (omega arith) in
    omega arith

-- a lock of the thread's list is held by no other thread, so no other has an access noted under it
alone : (limits : Limits) (log : List Event) (p : Parts) (t : ThreadId) → WellFormed limits log
    → StandsFor log p → IsAlone p.sums t.0 (list_at p.held t.0).locks
alone limits log p t w st l u v k is other = go (cases_Bool (noted_of p.sums u l v k))
  where
    lock : LockId
    lock = record { 0 = l }

    thread : ThreadId
    thread = record { 0 = u }

    var : VarId
    var = record { 0 = v }

    all : take (length log) log ≡ log
    all = take-length log

    has : Has l (held_of p.held t.0)
    has =
        let member = any_has (nat_eq l) (held_of p.held t.0)
        (sym (held_numbers (list_at p.held t.0).locks l) ∙ is) in
        let same : l ≡ member.0 = eqb-true l member.0 member.2 in
        subst (λ n. Has n (held_of p.held t.0)) (sym same) member.1

    mine : 0 < depth (take (length log) log) t lock
    mine = subst (λ xs. 0 < depth xs t lock) (sym all) ((st.strict.held t lock).0 has)

    theirs : Noted log thread lock var k → 0 < depth (take (length log) log) thread lock
    theirs n =
        n.is_open.held (length log) (slice_get_within log n.acquire n.is_open.opened.does.event
        n.is_open.opened.does.at) (omega arith)

    go : (noted_of p.sums u l v k ≡ true) ⊎ (noted_of p.sums u l v k ≡ false)
        → noted_of p.sums u l v k ≡ false
    go (inr none) = none
    go (inl some) =
        let noted : Noted log thread lock var k = (st.strict.noted thread lock var k).0 some in
        let one : thread ≡ t
        = (orderly limits log w).one_holder (length log) thread t lock (theirs noted) mine in
        absurd (other (ap (λ (x : ThreadId). x.0) one))

-- one of the numbers is not above their sum
one_of_sum : (f : ℕ → ℕ) (n i : ℕ) → i < n → f i ≤ sum_below f n
one_of_sum f zero i lt = absurd (omega (arith, lt))
one_of_sum f (suc n) i lt = go (cases_lt i n) (λ less. one_of_sum f n i less)
  where
    go : (i < n) ⊎ (n ≤ i) → (i < n → f i ≤ sum_below f n) → f i ≤ sum_below f n + f n
    go (inl less) rest = let before : f i ≤ sum_below f n = rest less in omega arith
    go (inr more) rest =
        let same : i ≡ n = omega arith in
        let here : f i ≡ f n = ap f same in
        omega arith

-- a lock has no more closed sections than the log has events
pub closed_few : (log : List Event) (p : Parts) (l : LockId) → StandsFor log p
    → length ((state_of p).closed l.0) ≤ length log
closed_few log p l st =
    let one : length ((state_of p).closed l.0) ≤ sum_below (λ k. length ((state_of p).closed k)) (suc l.0)
    = one_of_sum (λ k. length ((state_of p).closed k)) (suc l.0) l.0 (omega arith) in
    let all : sum_below (λ k. length ((state_of p).closed k)) (suc l.0) ≤ length log
    = st.found.few (suc l.0) in
    omega arith

-- a section that is closed after them has a number
few_closed : (limits : Limits) (log : List Event) (e : Event) (p : Parts) → limits.events ≤ MOST_EVENTS
    → WellFormed limits (log ++ e ∷ []) → StandsFor log p → (l : LockId)
    → wcp.effect e (state_of p) ≡ Closes l → length ((state_of p).closed l.0) + 1 < MOST_EVENTS
few_closed limits log e p most w st l told =
    let some : 0 < length log = closes_after_first log e (state_of p) st.strict l told in
    let one : length ((state_of p).closed l.0) ≤ sum_below (λ k. length ((state_of p).closed k)) (suc l.0)
    = one_of_sum (λ k. length ((state_of p).closed k)) (suc l.0) l.0 (omega arith) in
    let all : sum_below (λ k. length ((state_of p).closed k)) (suc l.0) < length log
    = st.found.fewer (suc l.0) some in
    let grown : length (log ++ e ∷ []) ≡ length log + 1 = grown_length log e in
    let within : length (log ++ e ∷ []) ≤ limits.events = log_within limits (log ++ e ∷ []) w in
    omega arith

-- there are fewer events before this one than there may be
fewer : (limits : Limits) (log : List Event) (e : Event) → limits.events ≤ MOST_EVENTS
    → WellFormed limits (log ++ e ∷ []) → length log < MOST_EVENTS
fewer limits log e most w =
    let grown : length (log ++ e ∷ []) ≡ length log + 1 = grown_length log e in
    let within : length (log ++ e ∷ []) ≤ limits.events = log_within limits (log ++ e ∷ []) w in
    omega arith

-- and the thread's clock counts no more of them
few_counts : (limits : Limits) (log : List Event) (e : Event) (p : Parts) → limits.events ≤ MOST_EVENTS
    → WellFormed limits (log ++ e ∷ []) → StandsFor log p → (u : ℕ)
    → (hb_of p).hb.thread e.thread.0 u < MOST_EVENTS
few_counts limits log e p most w st u =
    let other : ThreadId = record { 0 = u } in
    let counted = (st.hb.hb.thread e.thread other).within in
    let events = events_within log other in
    let few = fewer limits log e most w in
    omega arith

-- nor does a lock's
few_at_lock : (limits : Limits) (log : List Event) (e : Event) (p : Parts) → limits.events ≤ MOST_EVENTS
    → WellFormed limits (log ++ e ∷ []) → StandsFor log p → (l : LockId)
    → (hb_of p).hb.lock l.0 e.thread.0 < MOST_EVENTS
few_at_lock limits log e p most w st l =
    let counted = (st.hb.hb.lock l e.thread).within in
    let events = events_within log e.thread in
    let few = fewer limits log e most w in
    omega arith

-- the law: at a legal event the numbers fit
pub fits_where_legal : FitsWhereLegal
fits_where_legal limits log e p bounds w st little =
    let front : WellFormed limits log = well_formed_front limits log (e ∷ []) w in
    let within : length log ≤ limits.events = log_within limits log front in
    let most : limits.events ≤ MOST_EVENTS = bounds.most_events in
    record {
      admits = admits_legal limits log e (hb_of p) w st.hb;
      few = few_in_log log (hb_of p) (omega arith) st.hb;
      sound = sound_where_legal limits log e (state_of p) w st.strict;
      alone = alone limits log p e.thread front st;
      held = λ l. held l;
      few_counts = few_counts limits log e p most w st;
      few_at_lock = few_at_lock limits log e p most w st;
      few_closed = few_closed limits log e p most w st;
      cursors = st.found.counted;
      joins = little.joins;
      comparisons = little.comparisons;
    }
  where
    held : (l : LockId) → Has l.0 (held_of p.held e.thread.0) ↔ (0 < (hb_of p).depth e.thread.0 l.0)
    held l = (
      λ has. subst (λ n. 0 < n) (sym (st.hb.depths e.thread l)) ((st.strict.held e.thread l).0 has),
      λ up. (st.strict.held e.thread l).1 (subst (λ n. 0 < n) (st.hb.depths e.thread l) up),
    )
