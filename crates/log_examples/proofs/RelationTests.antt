-- Tests that compute, by which small logs are held against the definitions.
use Rattle.std.proofs.Common.{◌≡◌, ℕ, suc, zero, ◌<◌, ◌≤◌, ◌+◌, List, Bool, true, false, length, refl, sym}
use Rattle.std.proofs.Common.{ap, ap₂, subst, ◌∙◌, arith, take, ◌⊎◌, Option, Some, None, slice_get, nat_eq}
use Rattle.std.proofs.Common.{nat_le, nat_lt, not, ◌&&◌, ◌||◌}
use Rattle.std.proofs.lemmas.Bool.{cases_lt, eq-eqb, eqb-true, ne_eqb, and_parts, and_from, or_cases, or_left}
use Rattle.std.proofs.lemmas.Bool.{or_right, ltb-true, lt-ltb, leb-true}
use Rattle.std.proofs.lemmas.Option.{slice_get_within}
use mathlib.Core.Logic.{inl, inr}
use Rattle.event_core.specs.declared.ids.ThreadId.{ThreadId}
use Rattle.event_core.specs.declared.ids.LockId.{LockId}
use Rattle.event_core.specs.declared.events.Event.{Event}
use Rattle.event_core.specs.declared.events.Op.{Op}
use Rattle.event_core.specs.declared.events.Op.TheVariants.{Load, Store, Acquire, Fork, Join}
use Rattle.event_core.specs.declared.replies.Verdict.TheVariants.{Clear, Racy}
use Rattle.event_core.specs.Log.{Does, Of, depth, Inside, OpsConflict, Conflict}
use Rattle.event_core.specs.Order.{here, step, ProgramEdge, same_thread, fork_to_event, fork_to_join}
use Rattle.event_core.specs.Order.{event_to_join, Po}
use Rattle.event_core.specs.Wcp.{Meets, Strict, Below}
use Rattle.event_core.specs.Refusal.{op_forks, op_joins}
use Rattle.event_core.specs.Verdict.{Races, IsVerdict}
use Rattle.event_core.proofs.LogProperties.{does_op}
use Rattle.event_core.proofs.OrderProperties.{program_forward, hb_forward}
use Rattle.event_core.proofs.RecurrenceProperties.{strict_least}

-- whether the test holds of all numbers below n
abbrev pub all_below : (ℕ → Bool) → ℕ → Bool
all_below p zero = true
all_below p (suc n) = p n && all_below p n

all_at : (p : ℕ → Bool) (n k : ℕ) → all_below p n ≡ true → k < n → p k ≡ true
all_at p zero k h lt = absurd (omega arith)
all_at p (suc n) k h lt = go (cases_lt k n) (λ lt. all_at p n k (and_parts _ _ h).1 lt)
  where
    go : (k < n) ⊎ (n ≤ k) → (k < n → p k ≡ true) → p k ≡ true
    go (inl lt) ih = ih lt
    go (inr ge) ih = let same : n ≡ k = omega arith in subst (λ i. p i ≡ true) same (and_parts _ _ h).0

not_both_ways : (b : Bool) → b ≡ true → not b ≡ true → ⊥
not_both_ways true p q = cc
not_both_ways false p q = cc

-- the event at an index
pub does_at : (log : List Event) (i : ℕ) (e : Event) → slice_get log i ≡ Some e → Does log i e.thread e.op
does_at log i e at = record { event = e; at = at; thread = refl; does = refl }

-- whether events conflict
abbrev pub ops_conflict : Op → Op → Bool
ops_conflict (Load x) (Store y) = nat_eq x.0 y.0
ops_conflict (Store x) (Load y) = nat_eq x.0 y.0
ops_conflict (Store x) (Store y) = nat_eq x.0 y.0
ops_conflict _ _ = false

abbrev pub events_conflict : Option Event → Option Event → Bool
events_conflict (Some e) (Some f) = not (nat_eq e.thread.0 f.thread.0) && ops_conflict e.op f.op
events_conflict _ _ = false

ops_test : (p q : Op) → OpsConflict p q → ops_conflict p q ≡ true
ops_test (Load x) (Store y) h = eq-eqb x.0 y.0 (ap (λ v. v.0) h)
ops_test (Store x) (Load y) h = eq-eqb x.0 y.0 (ap (λ v. v.0) h)
ops_test (Store x) (Store y) h = eq-eqb x.0 y.0 (ap (λ v. v.0) h)
ops_test _ _ h = absurd h

conflict_test : (log : List Event) (i j : ℕ) → Conflict log i j
    → events_conflict (slice_get log i) (slice_get log j) ≡ true
conflict_test log i j c =
    ap₂ events_conflict c.does_first.at c.does_second.at
    ∙ and_from _ _ (ap not (ne_eqb e.thread.0 f.thread.0 apart)) (ops_test e.op f.op ops)
  where
    e : Event
    e = c.does_first.event

    f : Event
    f = c.does_second.event

    apart : e.thread.0 ≡ f.thread.0 → ⊥
    apart h =
        let same : e.thread ≡ f.thread = ap (λ (n : ℕ). let t : ThreadId = record { 0 = n } in t) h in
        c.threads (sym c.does_first.thread ∙ same ∙ c.does_second.thread)

    ops : OpsConflict e.op f.op
    ops =
        subst (λ q. OpsConflict e.op q) (sym c.does_second.does)
        (subst (λ p. OpsConflict p c.second) (sym c.does_first.does) c.ops)

-- an event that conflicts with none before it is clear
pub clear_alone : (log : List Event) (j : ℕ)
    → all_below (λ i. not (events_conflict (slice_get log i) (slice_get log j))) j ≡ true
    → IsVerdict log j Clear
clear_alone log j h i r =
    not_both_ways _ (conflict_test log i j r.conflict)
    (all_at (λ i. not (events_conflict (slice_get log i) (slice_get log j))) j i h r.before)

-- so is one that conflicts with one event alone, which is below it
pub clear_but : (log : List Event) (j g : ℕ)
    → all_below (λ i. nat_eq i g || not (events_conflict (slice_get log i) (slice_get log j))) j ≡ true
    → Below log g j → IsVerdict log j Clear
clear_but log j g h b i r =
    go (or_cases _ _
    (all_at (λ i. nat_eq i g || not (events_conflict (slice_get log i) (slice_get log j))) j i h
    r.before))
  where
    go : (nat_eq i g ≡ true) ⊎ (not (events_conflict (slice_get log i) (slice_get log j)) ≡ true) → ⊥
    go (inl t) = r.unordered (subst (λ k. Below log k j) (sym (eqb-true i g t)) b)
    go (inr n) = not_both_ways _ (conflict_test log i j r.conflict) n

-- an event that races with g, and conflicts with none after g
pub racy_with : (log : List Event) (j g : ℕ) → Races log g j
    → all_below (λ i. nat_le i g || not (events_conflict (slice_get log i) (slice_get log j))) j ≡ true
    → IsVerdict log j (Racy g)
racy_with log j g races h = (races, later)
  where
    later : (k : ℕ) → g < k → Races log k j → ⊥
    later k lt r =
        go (or_cases _ _
        (all_at (λ i. nat_le i g || not (events_conflict (slice_get log i) (slice_get log j))) j k
        h r.before))
      where
        go : (nat_le k g ≡ true) ⊎ (not (events_conflict (slice_get log k) (slice_get log j)) ≡ true) → ⊥
        go (inl t) = let le : k ≤ g = leb-true k g t in omega arith
        go (inr n) = not_both_ways _ (conflict_test log k j r.conflict) n

-- whether the thread holds the lock after each beginning of the log from length a + 1 to a + n
abbrev pub held_for : List Event → ThreadId → LockId → ℕ → ℕ → Bool
held_for log u l a zero = true
held_for log u l a (suc n) = nat_lt 0 (depth (take (suc (a + n)) log) u l) && held_for log u l a n

held_at : (log : List Event) (u : ThreadId) (l : LockId) (a n k : ℕ) → held_for log u l a n ≡ true → a < k
    → k ≤ a + n → 0 < depth (take k log) u l
held_at log u l a zero k h lt le = absurd (omega arith)
held_at log u l a (suc n) k h lt le =
    go (cases_lt (a + n) k) (λ le. held_at log u l a n k (and_parts _ _ h).1 lt le)
  where
    go : (a + n < k) ⊎ (k ≤ a + n) → (k ≤ a + n → 0 < depth (take k log) u l) → 0 < depth (take k log) u l
    go (inr le) ih = ih le
    go (inl gt) ih =
        let same : suc (a + n) ≡ k = omega arith in
        subst (λ i. 0 < depth (take i log) u l) same (ltb-true 0 _ (and_parts _ _ h).0)

-- an event inside a section, n events after the acquire
pub inside_at : (log : List Event) (u : ThreadId) (l : LockId) (a n i : ℕ) → Does log a u (Acquire l)
    → depth (take a log) u l ≡ 0 → Of log i u → a + n ≡ i → held_for log u l a n ≡ true → Inside log u l a i
inside_at log u l a n i d z o e h = record {
  opened = record { does = d; outer = z };
  of = o;
  from = omega arith;
  held = λ k lt le. held_at log u l a n k h lt (omega arith);
}

-- whether events are joined by an edge of program order
abbrev pub forks_joined : Op → Op → Bool
forks_joined (Fork u) (Join v) = nat_eq u.0 v.0
forks_joined _ _ = false

abbrev pub events_edge : Option Event → Option Event → Bool
events_edge (Some e) (Some f) =
    nat_eq e.thread.0
    f.thread.0 || (op_forks f.thread e.op || (forks_joined e.op f.op || op_joins e.thread f.op))
events_edge _ _ = false

same_number : {u v : ThreadId} → u ≡ v → nat_eq u.0 v.0 ≡ true
same_number {u = u} {v = v} e = eq-eqb u.0 v.0 (ap (λ t. t.0) e)

edge_test : (log : List Event) (g h : ℕ) → ProgramEdge log g h
    → events_edge (slice_get log g) (slice_get log h) ≡ true
edge_test log g h (same_thread u lt a b) =
    ap₂ events_edge a.at b.at ∙ or_left _ _ (same_number (a.thread ∙ sym b.thread))
edge_test log g h (fork_to_event u v lt a b) =
    ap₂ events_edge a.at b.at
    ∙ or_right (nat_eq a.event.thread.0 b.event.thread.0) _
    (or_left _ _ (ap (op_forks b.event.thread) a.does ∙ same_number (sym b.thread)))
edge_test log g h (fork_to_join u v w lt a b) =
    ap₂ events_edge a.at b.at
    ∙ or_right (nat_eq a.event.thread.0 b.event.thread.0) _
    (or_right (op_forks b.event.thread a.event.op) _
    (or_left _ _ (ap₂ forks_joined a.does b.does ∙ eq-eqb u.0 u.0 refl)))
edge_test log g h (event_to_join u w lt a b) =
    ap₂ events_edge a.at b.at
    ∙ or_right (nat_eq a.event.thread.0 b.event.thread.0) _
    (or_right (op_forks b.event.thread a.event.op) _
    (or_right (forks_joined a.event.op b.event.op) _
    (ap (op_joins a.event.thread) b.does ∙ same_number (sym a.thread))))

-- whether no edge leaves the set
abbrev pub is_left_by_none : List Event → (ℕ → Bool) → Bool
is_left_by_none log s =
    all_below (λ h. all_below
    (λ g. not (s g) || (not (events_edge (slice_get log g) (slice_get log h)) || s h)) h)
    (length log)

edge_stays : (log : List Event) (s : ℕ → Bool) (g h : ℕ) → is_left_by_none log s ≡ true → ProgramEdge log g h
    → s g ≡ true → s h ≡ true
edge_stays log s g h closed e in_s =
    go (or_cases _ _
    (all_at (λ g. not (s g) || (not (events_edge (slice_get log g) (slice_get log h)) || s h)) h g
    row (program_forward g h e)))
  where
    within : ProgramEdge log g h → h < length log
    within (same_thread u lt a b) = slice_get_within log h b.event b.at
    within (fork_to_event u v lt a b) = slice_get_within log h b.event b.at
    within (fork_to_join u v w lt a b) = slice_get_within log h b.event b.at
    within (event_to_join u w lt a b) = slice_get_within log h b.event b.at

    row : all_below (λ g. not (s g) || (not (events_edge (slice_get log g) (slice_get log h)) || s h)) h
        ≡ true
    row =
        all_at (λ h. all_below
        (λ g. not (s g) || (not (events_edge (slice_get log g) (slice_get log h)) || s h)) h)
        (length log) h closed (within e)

    go : (not (s g) ≡ true) ⊎ ((not (events_edge (slice_get log g) (slice_get log h)) || s h) ≡ true)
        → s h ≡ true
    go (inl n) = absurd (not_both_ways _ in_s n)
    go (inr o) = by_edge (or_cases _ _ o)
      where
        by_edge : (not (events_edge (slice_get log g) (slice_get log h)) ≡ true) ⊎ (s h ≡ true) → s h ≡ true
        by_edge (inl n) = absurd (not_both_ways _ (edge_test log g h e) n)
        by_edge (inr t) = t

-- program order does not lead out of a set that no edge leaves
pub po_stays : (log : List Event) (s : ℕ → Bool) (i j : ℕ) → is_left_by_none log s ≡ true → s i ≡ true
    → Po log i j → s j ≡ true
po_stays log s i j closed in_s here = in_s
po_stays log s i j closed in_s (step {g = g} c e) =
    edge_stays log s g j closed e (po_stays log s i g closed in_s c)

-- whether the event's thread holds the lock as it acts
abbrev pub holds : List Event → ℕ → LockId → Option Event → Bool
holds log i l (Some e) = nat_lt 0 (depth (take i log) e.thread l)
holds log i l None = false

abbrev pub both_hold : List Event → ℕ → ℕ → Op → Bool
both_hold log i j (Acquire l) = holds log i l (slice_get log i) && holds log j l (slice_get log j)
both_hold log i j _ = false

abbrev pub hold_acquired : List Event → ℕ → ℕ → Option Event → Bool
hold_acquired log i j (Some e) = both_hold log i j e.op
hold_acquired log i j None = false

abbrev pub meet_if : Bool → List Event → ℕ → ℕ → Option Event → Bool
meet_if true log i j a = hold_acquired log i j a
meet_if false log i j a = false

-- whether i and j conflict while their threads both hold the lock of the acquire at a
abbrev pub may_meet : List Event → ℕ → ℕ → ℕ → Bool
may_meet log i j a =
    meet_if (events_conflict (slice_get log i) (slice_get log j)) log i j (slice_get log a)

-- whether that is so of no events below n
abbrev pub none_meets : List Event → ℕ → Bool
none_meets log n = all_below (λ j. all_below (λ i. all_below (λ a. not (may_meet log i j a)) j) j) n

-- an access is no acquire
first_acquires : (p q : Op) (l : LockId) → p ≡ Acquire l → OpsConflict p q → ⊥
first_acquires (Load x) (Store y) l e o = cc
first_acquires (Store x) (Load y) l e o = cc
first_acquires (Store x) (Store y) l e o = cc
first_acquires _ _ l e o = o

second_acquires : (p q : Op) (l : LockId) → q ≡ Acquire l → OpsConflict p q → ⊥
second_acquires (Load x) (Store y) l e o = cc
second_acquires (Store x) (Load y) l e o = cc
second_acquires (Store x) (Store y) l e o = cc
second_acquires _ _ l e o = o

holds_at : (log : List Event) (i : ℕ) (u : ThreadId) (l : LockId) → Of log i u → 0 < depth (take i log) u l
    → holds log i l (slice_get log i) ≡ true
holds_at log i u l o h =
    ap (holds log i l) o.at
    ∙ lt-ltb 0 (depth (take i log) o.event.thread l)
    (subst (λ v. 0 < depth (take i log) v l) (sym o.thread) h)

meet_test : (log : List Event) (r j : ℕ) → (m : Meets log r j)
    → (m.access < j) × (m.acquire < j) × (may_meet log m.access j m.acquire ≡ true)
meet_test log r j m = (earlier, opened_before, test)
  where
    earlier : m.access < j
    earlier = let a : m.access ≤ r = m.in_section.to in let b : r < j = m.before in omega arith

    opened_before : m.acquire < j
    opened_before =
        let le : m.acquire ≤ j = m.inside.from in
        let ne : m.acquire ≡ j → ⊥ = λ e. second_acquires m.conflict.first m.conflict.second m.lock
        (does_op m.conflict.does_second
        (subst (λ i. Does log i m.thread (Acquire m.lock)) e m.inside.opened.does))
        m.conflict.ops in
        omega arith

    own_before : m.in_section.acquire < m.access
    own_before =
        let le : m.in_section.acquire ≤ m.access = m.in_section.from in
        let ne : m.in_section.acquire ≡ m.access → ⊥
        = λ e. first_acquires m.conflict.first m.conflict.second m.lock
        (does_op m.conflict.does_first
        (subst (λ i. Does log i m.in_section.thread (Acquire m.lock)) e
        m.in_section.section.inside.opened.does))
        m.conflict.ops in
        omega arith

    first_holds : holds log m.access m.lock (slice_get log m.access) ≡ true
    first_holds =
        holds_at log m.access m.in_section.thread m.lock m.in_section.of
        (m.in_section.section.inside.held m.access own_before m.in_section.to)

    second_holds : holds log j m.lock (slice_get log j) ≡ true
    second_holds =
        holds_at log j m.thread m.lock m.inside.of (m.inside.held j opened_before (omega arith))

    test : may_meet log m.access j m.acquire ≡ true
    test =
        ap (λ b. meet_if b log m.access j (slice_get log m.acquire)) (conflict_test log m.access j m.conflict)
        ∙ ap (hold_acquired log m.access j) m.inside.opened.does.at
        ∙ ap (both_hold log m.access j) m.inside.opened.does.does
        ∙ and_from _ _ first_holds second_holds

no_meeting : (log : List Event) (n : ℕ) → none_meets log n ≡ true → (r j : ℕ) → j < n → Meets log r j → ⊥
no_meeting log n h r j lt m =
    let t = meet_test log r j m in
    let row = all_at (λ j. all_below (λ i. all_below (λ a. not (may_meet log i j a)) j) j) n j h lt in
    let cell = all_at (λ i. all_below (λ a. not (may_meet log i j a)) j) j m.access row t.0 in
    not_both_ways _ t.2 (all_at (λ a. not (may_meet log m.access j a)) j m.acquire cell t.1)

-- where no conflicting accesses below n are inside sections on one lock, nothing strictly precedes an event
-- below n
pub strict_from : (log : List Event) (n : ℕ) → none_meets log n ≡ true → (i j : ℕ) → Strict log i j → n ≤ j
strict_from log n h i j s =
    strict_least (λ a b. n ≤ b) (record {
      a = λ r j m. not_early (cases_lt j n) m;
      b = λ r s e f l lt p q d. (let le : f ≤ s = q.to in omega arith);
      left = λ i g j h d. d;
      right = λ i g j d h. (let le : g ≤ j = hb_forward h in omega arith);
    }) s
  where
    not_early : {r j : ℕ} → (j < n) ⊎ (n ≤ j) → Meets log r j → n ≤ j
    not_early (inl lt) m = absurd (no_meeting log n h _ _ lt m)
    not_early (inr ge) m = ge

pub no_strict : (log : List Event) (n i j : ℕ) → none_meets log n ≡ true → j < n → Strict log i j → ⊥
no_strict log n i j h lt s = let le = strict_from log n h i j s in omega arith
