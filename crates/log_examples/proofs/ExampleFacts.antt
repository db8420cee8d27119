-- Events, sections and conflicts of the small logs, at the indices where they are.
use Rattle.std.proofs.Common.{◌≡◌, ℕ, suc, ◌<◌, ◌≤◌, ◌+◌, List, Bool, true, ap, take, Some, slice_get}
use Rattle.event_core.specs.declared.ids.ThreadId.{ThreadId}
use Rattle.event_core.specs.declared.ids.LockId.{LockId}
use Rattle.event_core.specs.declared.events.Op.{Op}
use Rattle.event_core.specs.declared.events.Op.TheVariants.{Acquire, Release}
use Rattle.event_core.specs.declared.events.Event.{Event}
use Rattle.event_core.specs.Log.{Does, Of, depth, Inside, Section, InSection, Conflict, OpsConflict}
use Rattle.event_core.specs.Order.{Po}
use Rattle.event_core.specs.Wcp.{Meets}
use Rattle.log_examples.specs.Examples.{main, child, event}
use Rattle.event_core.proofs.LogProperties.{of_does}
use Rattle.log_examples.proofs.RelationTests.{does_at, inside_at, held_for, is_left_by_none, po_stays}

-- the event of a small log
pub is : (log : List Event) (i : ℕ) (t : ThreadId) (o : Op) → slice_get log i ≡ Some (event t o)
    → Does log i t o
is log i t o at = does_at log i (event t o) at

pub at_thread : (log : List Event) (i : ℕ) (t : ThreadId) (o : Op) → slice_get log i ≡ Some (event t o)
    → Of log i t
at_thread log i t o at = of_does (is log i t o at)

-- a section of a small log, with n events of the log from its acquire to its release
pub section_at : (log : List Event) (u : ThreadId) (l : LockId) (a n r : ℕ) → Does log a u (Acquire l)
    → Does log r u (Release l) → depth (take a log) u l ≡ 0 → depth (take (suc r) log) u l ≡ 0 → a + n ≡ r
    → held_for log u l a n ≡ true → Section log u l a r
section_at log u l a n r d e z z' at h = record {
  inside = inside_at log u l a n r d z (of_does e) at h;
  closed = record { does = e; outer = z' };
}

pub in_it : {log : List Event} {u : ThreadId} {l : LockId} {a r i : ℕ} → Section log u l a r → Of log i u
    → a ≤ i
    → i ≤ r → InSection log l r i
in_it {u = u} {a = a} s o from to =
    record { thread = u; acquire = a; section = s; of = o; from = from; to = to }

pub main_not_child : main ≡ child → ⊥
main_not_child e = let n : main.0 ≡ child.0 = ap (λ (t : ThreadId). t.0) e in cc

-- accesses of two threads that conflict
pub conflict_at : {log : List Event} {i j : ℕ} {u v : ThreadId} {p q : Op} → Does log i u p → Does log j v q
    → OpsConflict p q → (u ≡ v → ⊥) → Conflict log i j
conflict_at {u = u} {v = v} {p = p} {q = q} a b ops apart = record {
  first = p;
  second = q;
  by = u;
  other = v;
  does_first = a;
  does_second = b;
  ops = ops;
  threads = apart;
}

-- main's section with an access, and the child's later access in a section on the same lock
pub meets_at : {log : List Event} {m : LockId} {a r g b j : ℕ} {p q : Op} → Section log main m a r
    → Does log g main p → a ≤ g → g ≤ r → Inside log child m b j → Does log j child q → r < j
    → OpsConflict p q → Meets log r j
meets_at {m = m} {g = g} {b = b} s first from to inside second before ops = record {
  before = before;
  lock = m;
  thread = child;
  acquire = b;
  inside = inside;
  access = g;
  in_section = in_it s (of_does first) from to;
  conflict = conflict_at first second ops main_not_child;
}

-- program order does not lead from a set that no edge leaves to an event outside it
pub po_stays_in : (log : List Event) (s : ℕ → Bool) (i j : ℕ) → is_left_by_none log s ≡ true → s i ≡ true
    → (s j ≡ true → ⊥) → Po log i j → ⊥
po_stays_in log s i j closed in_s out p = out (po_stays log s i j closed in_s p)
