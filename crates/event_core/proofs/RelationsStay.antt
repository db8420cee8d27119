-- The relations on the events below n depend on the log's first n events alone.
use Rattle.std.proofs.Common.{◌≡◌, ℕ, suc, ◌<◌, ◌≤◌, List, ◌++◌, length, sym, subst, ◌∙◌}
use Rattle.std.proofs.Common.{arith, take, slice_get}
use Rattle.std.proofs.lemmas.List.{take-append-le}
use mathlib.Core.Logic.{inl, inr}
use Rattle.event_core.proofs.Words.{ThreadId, LockId, Event, Op, Verdict, Clear, Racy}
use Rattle.event_core.specs.Log.{Does, Of, depth, OuterAcquire, OuterRelease, Inside, Section, InSection}
use Rattle.event_core.specs.Log.{Conflict}
use Rattle.event_core.specs.Order.{here, step, ProgramEdge, same_thread, fork_to_event, fork_to_join}
use Rattle.event_core.specs.Order.{event_to_join, HbEdge, program, lock, Po, Hb}
use Rattle.event_core.specs.Wcp.{Meets, Strict, rule_a, rule_b, rule_c_left, rule_c_right, Below}
use Rattle.event_core.specs.Verdict.{Races, IsVerdict}
use Rattle.event_core.proofs.OrderProperties.{program_forward, edge_forward, hb_forward}
use Rattle.event_core.proofs.DepthProperties.{event_at}
use Rattle.event_core.proofs.RecurrenceProperties.{strict_forward}
use Rattle.event_core.proofs.Places.{get_before}

-- the two logs have the same first n events
pub record Agree (n : ℕ) (log other : List Event) : Type 0 where
  pub events : (i : ℕ) → i < n → slice_get log i ≡ slice_get other i
  pub fronts : (k : ℕ) → k ≤ n → take k log ≡ take k other

-- logs agree both ways
pub back : {n : ℕ} {log other : List Event} → Agree n log other → Agree n other log
back a = record { events = λ i lt. sym (a.events i lt); fronts = λ k le. sym (a.fronts k le) }

get_append : (log more : List Event) (i : ℕ) → i < length log → slice_get log i ≡ slice_get (log ++ more) i
get_append log more i lt = let x = event_at log i lt in x.1 ∙ sym (get_before log more i x.0 x.1)

-- a log agrees with each longer one on its own events
pub longer : (log more : List Event) → Agree (length log) log (log ++ more)
longer log more = record { events = get_append log more; fronts = λ k le. sym (take-append-le k log more le) }

-- the same event, in the other log
pub does : {n : ℕ} {log other : List Event} {i : ℕ} {u : ThreadId} {p : Op} → Agree n log other → i < n
    → Does log i u p → Does other i u p
does {i = i} a lt d =
    record { event = d.event; at = sym (a.events i lt) ∙ d.at; thread = d.thread; does = d.does }

-- of the same thread, in the other log
pub of : {n : ℕ} {log other : List Event} {i : ℕ} {u : ThreadId} → Agree n log other → i < n → Of log i u
    → Of other i u
of {i = i} a lt d = record { event = d.event; at = sym (a.events i lt) ∙ d.at; thread = d.thread }

-- an outer acquire is one in the other log
pub acquire : {n : ℕ} {log other : List Event} {i : ℕ} {u : ThreadId} {l : LockId} → Agree n log other → i < n
    → OuterAcquire log i u l → OuterAcquire other i u l
acquire {i = i} {u = u} {l = l} a lt d =
    record {
      does = does a lt d.does;
      outer = subst (λ xs. depth xs u l ≡ 0) (a.fronts i (omega arith)) d.outer;
    }

-- an outer release is one in the other log
pub releases_it : {n : ℕ} {log other : List Event} {i : ℕ} {u : ThreadId} {l : LockId} → Agree n log other
    → i < n → OuterRelease log i u l → OuterRelease other i u l
releases_it {i = i} {u = u} {l = l} a lt d =
    record {
      does = does a lt d.does;
      outer = subst (λ xs. depth xs u l ≡ 0) (a.fronts (suc i) (omega arith)) d.outer;
    }

pub inside : {n : ℕ} {log other : List Event} {b i : ℕ} {u : ThreadId} {l : LockId} → Agree n log other
    → i < n → Inside log u l b i → Inside other u l b i
inside {b = b} {u = u} {l = l} a lt d = record {
  opened = acquire a (omega arith) d.opened;
  of = of a lt d.of;
  from = d.from;
  held = λ k c e. subst (λ xs. 0 < depth xs u l) (a.fronts k (omega arith)) (d.held k c e);
}

-- a section is one in the other log
pub section_too : {n : ℕ} {log other : List Event} {b r : ℕ} {u : ThreadId} {l : LockId} → Agree n log other
    → r < n → Section log u l b r → Section other u l b r
section_too a lt s = record { inside = inside a lt s.inside; closed = releases_it a lt s.closed }

pub in_section : {n : ℕ} {log other : List Event} {r i : ℕ} {l : LockId} → Agree n log other → r < n
    → InSection log l r i → InSection other l r i
in_section {r = r} {i = i} a lt s = record {
  thread = s.thread;
  acquire = s.acquire;
  section = section_too a lt s.section;
  of = of a (omega arith) s.of;
  from = s.from;
  to = s.to;
}

pub conflict_too : {n : ℕ} {log other : List Event} {i j : ℕ} → Agree n log other → i < n → j < n
    → Conflict log i j → Conflict other i j
conflict_too a lt lt' c = record {
  first = c.first;
  second = c.second;
  by = c.by;
  other = c.other;
  does_first = does a lt c.does_first;
  does_second = does a lt' c.does_second;
  ops = c.ops;
  threads = c.threads;
}

pub meets : {n : ℕ} {log other : List Event} {r j : ℕ} → Agree n log other → j < n → Meets log r j
    → Meets other r j
meets {n = n} {r = r} {j = j} a lt m =
    let before : r < j = m.before in
    record {
      before = m.before;
      lock = m.lock;
      thread = m.thread;
      acquire = m.acquire;
      inside = inside a lt m.inside;
      access = m.access;
      in_section = in_section a (omega arith) m.in_section;
      conflict = conflict_too a (omega arith) lt m.conflict;
    }

program_too : {n : ℕ} {log other : List Event} {i j : ℕ} → Agree n log other → j < n → ProgramEdge log i j
    → ProgramEdge other i j
program_too a lt (same_thread u b x y) = same_thread u b (of a (omega arith) x) (of a lt y)
program_too a lt (fork_to_event u v b x y) = fork_to_event u v b (does a (omega arith) x) (of a lt y)
program_too a lt (fork_to_join u v w b x y) = fork_to_join u v w b (does a (omega arith) x) (does a lt y)
program_too a lt (event_to_join u w b x y) = event_to_join u w b (of a (omega arith) x) (does a lt y)

edge_too : {n : ℕ} {log other : List Event} {i j : ℕ} → Agree n log other → j < n → HbEdge log i j
    → HbEdge other i j
edge_too a lt (program e) = program (program_too a lt e)
edge_too a lt (lock u v l b x y) = lock u v l b (releases_it a (omega arith) x) (acquire a lt y)

-- program order is the same in the other log
pub po_too : {n : ℕ} {log other : List Event} {i j : ℕ} → Agree n log other → j < n → Po log i j
    → Po other i j
po_too a lt here = here
po_too {j = j} a lt (step {g = g} c e) =
    let b : g < j = program_forward g j e in step (po_too a (omega arith) c) (program_too a lt e)

-- happens-before is the same in the other log
pub hb_too : {n : ℕ} {log other : List Event} {i j : ℕ} → Agree n log other → j < n → Hb log i j
    → Hb other i j
hb_too a lt here = here
hb_too {j = j} a lt (step {g = g} c e) =
    let b : g < j = edge_forward g j e in step (hb_too a (omega arith) c) (edge_too a lt e)

-- the strict relation is the same in the other log
pub strict_too : {n : ℕ} {log other : List Event} {i j : ℕ} → Agree n log other → j < n → Strict log i j
    → Strict other i j
strict_too a lt (rule_a m) = rule_a (meets a lt m)
strict_too a lt (rule_b {s = s} {f = f} l b p q d) =
    rule_b l b (in_section a (omega arith) p) (in_section a lt q) (strict_too a (omega arith) d)
strict_too a lt (rule_c_left {g = g} {j = j} h d) =
    let b : g < j = strict_forward d in rule_c_left (hb_too a (omega arith) h) (strict_too a lt d)
strict_too a lt (rule_c_right {g = g} {j = j} d h) =
    let b : g ≤ j = hb_forward h in rule_c_right (strict_too a (omega arith) d) (hb_too a lt h)

-- what is below is the same in the other log
pub below_too : {n : ℕ} {log other : List Event} {i j : ℕ} → Agree n log other → j < n → Below log i j
    → Below other i j
below_too a lt (inl s) = inl (strict_too a lt s)
below_too a lt (inr p) = inr (po_too a lt p)

pub races_too : {n : ℕ} {log other : List Event} {i j : ℕ} → Agree n log other → j < n → Races log i j
    → Races other i j
races_too {i = i} {j = j} a lt r =
    let before : i < j = r.before in
    record {
      before = r.before;
      conflict = conflict_too a (omega arith) lt r.conflict;
      unordered = λ b. r.unordered (below_too (back a) lt b);
    }

-- the verdict is the same in the other log
pub verdict_too : {n : ℕ} {log other : List Event} (j : ℕ) (v : Verdict) → Agree n log other → j < n
    → IsVerdict log j v → IsVerdict other j v
verdict_too j Clear a lt none = λ i r. none i (races_too (back a) lt r)
verdict_too j (Racy i) a lt v = (races_too a lt v.0, λ k b r. v.1 k b (races_too (back a) lt r))
