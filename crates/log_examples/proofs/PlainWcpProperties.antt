-- Logs in which no lock is acquired again: the relations and verdicts of the rule for such logs are those of
-- the re-entrant rule.
use Rattle.std.proofs.Common.{◌≡◌, ℕ, ◌<◌, List, arith, take}
use mathlib.Core.Logic.{inl, inr}
use Rattle.event_core.specs.declared.ids.ThreadId.{ThreadId}
use Rattle.event_core.specs.declared.ids.LockId.{LockId}
use Rattle.event_core.specs.declared.events.Event.{Event}
use Rattle.event_core.specs.declared.bounds.Limits.{Limits}
use Rattle.event_core.specs.declared.replies.Verdict.{Verdict}
use Rattle.event_core.specs.declared.replies.Verdict.TheVariants.{Clear, Racy}
use Rattle.event_core.specs.declared.events.Op.TheVariants.{Acquire, Release}
use Rattle.event_core.specs.Log.{Does, depth, OuterAcquire, OuterRelease, Inside, InSection}
use Rattle.event_core.specs.Orderly.{Orderly}
use Rattle.event_core.specs.Order.{here, step, HbEdge, program, lock, Hb}
use Rattle.event_core.specs.Wcp.{Meets, Strict, rule_a, rule_b, rule_c_left, rule_c_right, Below}
use Rattle.event_core.specs.Verdict.{Races, IsVerdict}
use Rattle.log_examples.specs.Plain.{PlainWellFormed}
use Rattle.log_examples.specs.PlainWcp.{PlainHbEdge, plain_program, plain_lock, PlainHb, PlainInside}
use Rattle.log_examples.specs.PlainWcp.{PlainInSection, PlainMeets, PlainStrict, plain_a, plain_b}
use Rattle.log_examples.specs.PlainWcp.{plain_c_left}
use Rattle.log_examples.specs.PlainWcp.{plain_c_right, PlainBelow, PlainRaces, IsPlainVerdict}
use Rattle.event_core.proofs.InsideProperties.{inside_from, inside_to}
use Rattle.event_core.proofs.OrderlyProperties.{orderly}
use Rattle.log_examples.proofs.PlainProperties.{well_formed_too, plain_acquire, plain_release}

-- what is used of such a log
pub record Outer (log : List Event) : Type 0 where
  pub acquire : (a : ℕ) (u : ThreadId) (l : LockId) → Does log a u (Acquire l) → OuterAcquire log a u l
  pub release : (r : ℕ) (u : ThreadId) (l : LockId) → Does log r u (Release l) → OuterRelease log r u l
  pub order : Orderly log

pub outer : (m : Limits) (log : List Event) → PlainWellFormed m log → Outer log
outer m log w = record {
  acquire = λ a u l d. plain_acquire m log a u l w d;
  release = λ r u l d. plain_release m log r u l w d;
  order = orderly m log (well_formed_too m log w);
}

-- happens-before
edge_to : {log : List Event} {i j : ℕ} → Outer log → PlainHbEdge log i j → HbEdge log i j
edge_to {i = i} {j = j} w (plain_program e) = program e
edge_to {i = i} {j = j} w (plain_lock u v l b x y) = lock u v l b (w.release i u l x) (w.acquire j v l y)

edge_from : {log : List Event} {i j : ℕ} → HbEdge log i j → PlainHbEdge log i j
edge_from (program e) = plain_program e
edge_from (lock u v l b x y) = plain_lock u v l b x.does y.does

pub hb_to : {log : List Event} {i j : ℕ} → Outer log → PlainHb log i j → Hb log i j
hb_to w here = here
hb_to w (step c e) = step (hb_to w c) (edge_to w e)

pub hb_from : {log : List Event} {i j : ℕ} → Hb log i j → PlainHb log i j
hb_from here = here
hb_from (step c e) = step (hb_from c) (edge_from e)

-- sections
inside_plain_to : {log : List Event} {u : ThreadId} {l : LockId} {a i : ℕ} → Outer log
    → PlainInside log u l a i → Inside log u l a i
inside_plain_to {log = log} {u = u} {l = l} {a = a} {i = i} w h =
    inside_from log u l a i w.order (w.acquire a u l h.opened) h.of h.from
    (λ k lt lt' r. h.unreleased k lt lt' r.does)

inside_plain_from : {log : List Event} {u : ThreadId} {l : LockId} {a i : ℕ} → Outer log → Inside log u l a i
    → PlainInside log u l a i
inside_plain_from {log = log} {u = u} {l = l} {a = a} {i = i} w h = record {
  opened = h.opened.does;
  of = h.of;
  from = h.from;
  latest = λ k lt lt' d. (
      let up : 0 < depth (take k log) u l = h.held k lt (omega arith) in
      let none : depth (take k log) u l ≡ 0 = (w.acquire k u l d).outer in
      omega arith);
  unreleased = λ k lt lt' d. inside_to log u l a i k h lt lt' (w.release k u l d);
}

in_section_to : {log : List Event} {l : LockId} {r i : ℕ} → Outer log → PlainInSection log l r i
    → InSection log l r i
in_section_to {l = l} {r = r} w s = record {
  thread = s.thread;
  acquire = s.acquire;
  section = record { inside = inside_plain_to w s.inside; closed = w.release r s.thread l s.closed };
  of = s.of;
  from = s.from;
  to = s.to;
}

in_section_from : {log : List Event} {l : LockId} {r i : ℕ} → Outer log → InSection log l r i
    → PlainInSection log l r i
in_section_from w s = record {
  thread = s.thread;
  acquire = s.acquire;
  inside = inside_plain_from w s.section.inside;
  closed = s.section.closed.does;
  of = s.of;
  from = s.from;
  to = s.to;
}

meets_to : {log : List Event} {r j : ℕ} → Outer log → PlainMeets log r j → Meets log r j
meets_to w m = record {
  before = m.before;
  lock = m.lock;
  thread = m.thread;
  acquire = m.acquire;
  inside = inside_plain_to w m.inside;
  access = m.access;
  in_section = in_section_to w m.in_section;
  conflict = m.conflict;
}

meets_from : {log : List Event} {r j : ℕ} → Outer log → Meets log r j → PlainMeets log r j
meets_from w m = record {
  before = m.before;
  lock = m.lock;
  thread = m.thread;
  acquire = m.acquire;
  inside = inside_plain_from w m.inside;
  access = m.access;
  in_section = in_section_from w m.in_section;
  conflict = m.conflict;
}

-- the strict relation
pub strict_to : {log : List Event} {i j : ℕ} → Outer log → PlainStrict log i j → Strict log i j
strict_to w (plain_a m) = rule_a (meets_to w m)
strict_to w (plain_b l b p q d) = rule_b l b (in_section_to w p) (in_section_to w q) (strict_to w d)
strict_to w (plain_c_left h d) = rule_c_left (hb_to w h) (strict_to w d)
strict_to w (plain_c_right d h) = rule_c_right (strict_to w d) (hb_to w h)

pub strict_from : {log : List Event} {i j : ℕ} → Outer log → Strict log i j → PlainStrict log i j
strict_from w (rule_a m) = plain_a (meets_from w m)
strict_from w (rule_b l b p q d) = plain_b l b (in_section_from w p) (in_section_from w q) (strict_from w d)
strict_from w (rule_c_left h d) = plain_c_left (hb_from h) (strict_from w d)
strict_from w (rule_c_right d h) = plain_c_right (strict_from w d) (hb_from h)

below_to : {log : List Event} {i j : ℕ} → Outer log → PlainBelow log i j → Below log i j
below_to w (inl s) = inl (strict_to w s)
below_to w (inr p) = inr p

below_from : {log : List Event} {i j : ℕ} → Outer log → Below log i j → PlainBelow log i j
below_from w (inl s) = inl (strict_from w s)
below_from w (inr p) = inr p

-- races and verdicts
races_to : {log : List Event} {i j : ℕ} → Outer log → PlainRaces log i j → Races log i j
races_to w r =
    record { before = r.before; conflict = r.conflict; unordered = λ b. r.unordered (below_from w b) }

races_from : {log : List Event} {i j : ℕ} → Outer log → Races log i j → PlainRaces log i j
races_from w r =
    record { before = r.before; conflict = r.conflict; unordered = λ b. r.unordered (below_to w b) }

pub verdict_to : {log : List Event} (j : ℕ) (v : Verdict) → Outer log → IsPlainVerdict log j v
    → IsVerdict log j v
verdict_to j Clear w none = λ i r. none i (races_from w r)
verdict_to j (Racy i) w v = (races_to w v.0, λ k b r. v.1 k b (races_from w r))

pub verdict_from : {log : List Event} (j : ℕ) (v : Verdict) → Outer log → IsVerdict log j v
    → IsPlainVerdict log j v
verdict_from j Clear w none = λ i r. none i (races_to w r)
verdict_from j (Racy i) w v = (races_from w v.0, λ k b r. v.1 k b (races_to w r))
