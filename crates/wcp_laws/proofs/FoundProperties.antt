-- How many closed sections all releases of a log find counted.
use Rattle.std.proofs.Common.{◌≡◌, ℕ, zero, suc, ◌<◌, ◌≤◌, ◌+◌, ◌*◌, cond, nat_eq, nat_lt, Bool, true}
use Rattle.std.proofs.Common.{false, List, [], ◌∷◌, ◌++◌, length, length-append, refl, sym, ap, subst, ◌∙◌}
use Rattle.std.proofs.Common.{arith, ◌⊎◌, inl, inr}
use Rattle.std.proofs.Math.Nat.{mul-le-mul_left}
use Rattle.std.proofs.lemmas.Bool.{cases_lt, lt-ltb}
use Rattle.event_core.specs.declared.events.Event.{Event}
use Rattle.event_core.specs.declared.ids.LockId.{LockId}
use Rattle.event_core.specs.declared.ids.ThreadId.{ThreadId}
use Rattle.event_core.specs.Closed.{Closed, number_counted}
use Rattle.event_core.specs.Count.{events_of}
use Rattle.event_core.specs.Rows.{with_row}
use Rattle.event_core.specs.declared.events.Op.{Op}
use Rattle.event_core.specs.declared.events.Op.TheVariants.{Acquire, Release}
use Rattle.event_core.specs.Log.{depth}
use Rattle.event_core.specs.Effect.{Effect, Opens, Closes, Inner, effect_of}
use Rattle.event_core.specs.declared.bounds.Limits.{Limits}
use Rattle.event_core.specs.Refusal.{WellFormed}
use Rattle.event_core.proofs.CountedProperties.{events_own, events_other, grown_length}
use Rattle.event_core.proofs.DepthProperties.{thread_cases, same_thread_id}
use Rattle.event_core.proofs.RowsAfterProperties.{row_same, row_other, cell_other}
use Rattle.event_core.proofs.ClosedProperties.{number_most}
use Rattle.wcp_laws.specs.Conditions.{found_at}
use Rattle.wcp_laws.specs.Found.{sum_below, total_found, total_closed, has_events, threads_in, FoundFits}
use Rattle.wcp_laws.specs.Standing.{StandsFor}
use Rattle.wcp_laws.specs.State.{State, empty}
use Rattle.wcp_laws.specs.Step.{effect, hb_row, closed_after, after}
use Rattle.wcp_laws.proofs.Cursors.{cursors_step}
use Rattle.wcp_laws.proofs.SumBelowProperties.{sum_same, sum_within, sum_changed, sum_table}

-- nothing is closed at first
none_closed : (locks : ℕ) → total_closed locks (λ _. []) ≤ 0
none_closed zero = omega arith
none_closed (suc n) = let rest : total_closed n (λ _. []) ≤ 0 = none_closed n in omega arith

-- it fits the empty log that nothing was found
pub nothing_found_fits : FoundFits [] empty (λ _ _. 0)
nothing_found_fits = record {
  counted = λ l t. omega arith;
  own = λ l t none. refl;
  few = none_closed;
  fewer = λ locks some. absurd (omega (arith, some));
}

-- a thread that has no event has found nothing: the event is another's
found_own : (log : List Event) (e : Event) (s : State) (f : ℕ → ℕ → ℕ)
    → ((l : LockId) (t : ThreadId) → events_of log t ≡ 0 → f l.0 t.0 ≡ 0)
    → (k : Effect) (l : LockId) (t : ThreadId) → events_of (log ++ e ∷ []) t ≡ 0
    → found_at e.thread k s f l.0 t.0 ≡ 0
found_own log e s f own k l t none = go (thread_cases e.thread t)
  where
    go : (e.thread ≡ t) ⊎ (e.thread ≡ t → ⊥) → found_at e.thread k s f l.0 t.0 ≡ 0
    go (inl same) =
        let grown : events_of (log ++ e ∷ []) t ≡ events_of log t + 1
        = subst (λ v. events_of (log ++ e ∷ []) v ≡ events_of log v + 1) same (events_own log e) in
        absurd (omega arith)
    go (inr other) = kept k ∙ own l t (sym (events_other log e t other) ∙ none)
      where
        kept : (k : Effect) → found_at e.thread k s f l.0 t.0 ≡ f l.0 t.0
        kept (Closes n) =
            cell_other n.0 e.thread.0 (number_counted (s.strict.thread e.thread.0) (s.closed n.0)) f l.0 t.0
            (λ p q. other (same_thread_id (sym q)))
        kept _ = refl

-- an event closes one section at most
closes_one : (locks t : ℕ) (k : Effect) (g : ℕ → ℕ) (s : State)
    → total_closed locks (closed_after t k g s) ≤ total_closed locks s.closed + 1
closes_one locks t (Closes l) g s = go (cases_lt l.0 locks)
  where
    entry : Closed
    entry = record { thread = t; position = s.opened t l.0; release = g }

    longer : List Closed
    longer = s.closed l.0 ++ entry ∷ []

    new : ℕ → ℕ
    new a = length (with_row l.0 longer s.closed a)

    other : (a : ℕ) → (a ≡ l.0 → ⊥) → new a ≡ length (s.closed a)
    other a ne = ap (λ (qs : List Closed). length qs) (row_other l.0 longer s.closed a ne)

    one_more : new l.0 ≡ length (s.closed l.0) + 1
    one_more =
        ap (λ (qs : List Closed). length qs) (row_same l.0 longer s.closed)
        ∙ length-append (s.closed l.0) (entry ∷ [])

    go : (l.0 < locks) ⊎ (locks ≤ l.0) → sum_below new locks ≤ total_closed locks s.closed + 1
    go (inl lt) =
        let changed : sum_below new locks + length (s.closed l.0) ≡ total_closed locks s.closed + new l.0
        = sum_changed locks l.0 (λ a. length (s.closed a)) new lt other in
        let more = one_more in
        omega arith
    go (inr ge) =
        let same : sum_below new locks ≡ total_closed locks s.closed
        = sum_same locks (λ a. length (s.closed a)) new (λ a lt. other a (λ q. omega arith)) in
        omega arith
closes_one locks t _ g s = omega arith

-- an event that is no closing release closes none
closes_none : (locks t : ℕ) (k : Effect) (g : ℕ → ℕ) (s : State) → ((l : LockId) → k ≡ Closes l → ⊥)
    → total_closed locks (closed_after t k g s) ≡ total_closed locks s.closed
closes_none locks t (Closes l) g s n = absurd (n l refl)
closes_none locks t _ g s n = refl

-- nothing is held at first, so the first event is none
first_closes_none : (e : Event) (s : State) → StandsFor [] s → (l : LockId) → effect e s ≡ Closes l → ⊥
unfolding depth
first_closes_none e s st l = go e.op
  where
    none : (m : LockId) → s.depth e.thread.0 m.0 ≡ 0
    none m = st.depths e.thread m

    go : (op : Op) → effect_of (s.depth e.thread.0) op ≡ Closes l → ⊥
    go (Acquire m) q = absurd (cc (sym (ap (λ d. cond (nat_eq d 0) (Opens m) Inner) (none m)) ∙ q))
    go (Release m) q = absurd (cc (sym (ap (λ d. cond (nat_eq d 1) (Closes m) Inner) (none m)) ∙ q))
    go _ q = absurd (cc q)

-- a closing release has an event before it
pub closes_after_first : (log : List Event) (e : Event) (s : State) → StandsFor log s → (l : LockId)
    → effect e s ≡ Closes l → 0 < length log
closes_after_first [] e s st l told = absurd (first_closes_none e s st l told)
closes_after_first (x ∷ xs) e s st l told = omega arith

fewer_step : (locks : ℕ) (log : List Event) (e : Event) (s : State) → StandsFor log s
    → (0 < length log → total_closed locks s.closed < length log) → total_closed locks s.closed ≤ length log
    → total_closed locks (closed_after e.thread.0 (effect e s) (hb_row e s) s) < length (log ++ e ∷ [])
fewer_step locks [] e s st old few =
    let same = closes_none locks e.thread.0 (effect e s) (hb_row e s) s (first_closes_none e s st) in
    omega arith
fewer_step locks (x ∷ xs) e s st old few =
    let less = old (omega arith) in
    let one = closes_one locks e.thread.0 (effect e s) (hb_row e s) s in
    let grown = grown_length (x ∷ xs) e in
    omega arith

-- and each legal event leaves what fits
pub found_step : (limits : Limits) (log : List Event) (e : Event) (s : State) (f : ℕ → ℕ → ℕ)
    → WellFormed limits (log ++ e ∷ []) → StandsFor log s → FoundFits log s f
    → FoundFits (log ++ e ∷ []) (after e s) (found_at e.thread (effect e s) s f)
found_step limits log e s f w st fits = record {
  counted = cursors_step limits log e s f w st fits.counted;
  own = found_own log e s f fits.own (effect e s);
  few = λ locks.
      (let old : total_closed locks s.closed ≤ length log = fits.few locks in
      let one : total_closed locks (closed_after e.thread.0 (effect e s) (hb_row e s) s)
      ≤ total_closed locks s.closed + 1
      = closes_one locks e.thread.0 (effect e s) (hb_row e s) s in
      let grown = grown_length log e in
      omega arith);
  fewer = λ locks some. fewer_step locks log e s st (fits.fewer locks) (fits.few locks);
}

-- a closing release changes the total by what its thread newly finds on its lock
pub found_at_close : (locks threads : ℕ) (t : ThreadId) (l : LockId) (s : State) (f : ℕ → ℕ → ℕ)
    → l.0 < locks → t.0 < threads
    → total_found locks threads (found_at t (Closes l) s f) + f l.0 t.0
    ≡ total_found locks threads f + number_counted (s.strict.thread t.0) (s.closed l.0)
found_at_close locks threads t l s f in_locks in_threads =
    let row : sum_below (new l.0) threads + f l.0 t.0 ≡ sum_below (f l.0) threads + new l.0 t.0
    = sum_changed threads t.0 (f l.0) (new l.0) in_threads row_kept in
    let all : sum_below (λ a. sum_below (new a) threads) locks + sum_below (f l.0) threads
    ≡ sum_below (λ a. sum_below (f a) threads) locks + sum_below (new l.0) threads
    = sum_changed locks l.0 (λ a. sum_below (f a) threads) (λ a. sum_below (new a) threads) in_locks
    (λ a ne. ap (λ (r : ℕ → ℕ). sum_below r threads) (row_other l.0 (with_row t.0 found (f l.0)) f a ne)) in
    let at : new l.0 t.0 ≡ found = ap (λ (r : ℕ → ℕ). r t.0) is_row ∙ row_same t.0 found (f l.0) in
    omega arith
  where
    found : ℕ
    found = number_counted (s.strict.thread t.0) (s.closed l.0)

    new : ℕ → ℕ → ℕ
    new = found_at t (Closes l) s f

    is_row : new l.0 ≡ with_row t.0 found (f l.0)
    is_row = row_same l.0 (with_row t.0 found (f l.0)) f

    row_kept : (b : ℕ) → (b ≡ t.0 → ⊥) → new l.0 b ≡ f l.0 b
    row_kept b ne = ap (λ (r : ℕ → ℕ). r b) is_row ∙ row_other t.0 found (f l.0) b ne

-- what a thread with events finds on a lock is at most its closed sections
found_by : (log : List Event) (s : State) (f : ℕ → ℕ → ℕ) → FoundFits log s f → (l t : ℕ)
    → f l t ≤ has_events log t * length (s.closed l)
found_by log s f fits l t = go (cases_lt 0 (events_of log thread))
  where
    thread : ThreadId
    thread = record { 0 = t }

    lock : LockId
    lock = record { 0 = l }

    go : (0 < events_of log thread) ⊎ (events_of log thread ≤ 0)
        → f l t ≤ has_events log t * length (s.closed l)
    go (inl some) =
        let one : has_events log t ≡ 1
        = ap (λ (b : Bool). cond {A = ℕ} b 1 0) (lt-ltb 0 (events_of log thread) some) in
        let counted : f l t ≤ number_counted (s.strict.thread t) (s.closed l) = fits.counted lock thread in
        let within : number_counted (s.strict.thread t) (s.closed l) ≤ length (s.closed l)
        = number_most (s.strict.thread t) (s.closed l) in
        subst (λ n. f l t ≤ n * length (s.closed l)) (sym one) (omega arith)
    go (inr none) =
        let nothing : f l t ≡ 0 = fits.own lock thread (omega arith) in
        omega arith

-- each thread that has events finds each section once at most
pub found_at_most : (locks threads : ℕ) (log : List Event) (s : State) (f : ℕ → ℕ → ℕ)
    → FoundFits log s f → total_found locks threads f ≤ threads_in threads log * length log
found_at_most locks threads log s f fits =
    let table : total_found locks threads f ≤ threads_in threads log * total_closed locks s.closed
    = sum_table locks threads f (has_events log) (λ l. length (s.closed l)) (found_by log s f fits) in
    let few : threads_in threads log * total_closed locks s.closed ≤ threads_in threads log * length log
    = mul-le-mul_left (threads_in threads log) (fits.few locks) in
    omega arith

-- the threads that have events are no more than the limit
pub threads_within : (threads : ℕ) (log : List Event) → threads_in threads log ≤ threads
threads_within threads log =
    sum_within threads (has_events log) (λ t. one (nat_lt 0 (events_of log (record { 0 = t }))))
  where
    one : (b : Bool) → cond {A = ℕ} b 1 0 ≤ 1
    one true = omega arith
    one false = omega arith
