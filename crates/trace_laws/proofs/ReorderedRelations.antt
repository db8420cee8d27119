-- The relations of a log and of another that has its events in another order are the same.
use Rattle.std.proofs.Common.{◌≡◌, ℕ, ◌<◌, ◌≤◌, List, refl, sym, ap, subst, ◌∙◌, arith}
use Rattle.std.proofs.Common.{◌↔◌}
use Rattle.std.proofs.lemmas.Bool.{cases_lt}
use mathlib.Core.Logic.{inl, inr}
use Rattle.event_core.specs.declared.ids.ThreadId.{ThreadId}
use Rattle.event_core.specs.declared.ids.LockId.{LockId}
use Rattle.event_core.specs.declared.events.Event.{Event}
use Rattle.event_core.specs.Log.{Of, OuterAcquire, OuterRelease, Inside, InSection}
use Rattle.event_core.specs.Log.{Conflict}
use Rattle.event_core.specs.Order.{here, step, ProgramEdge, same_thread, fork_to_event, fork_to_join}
use Rattle.event_core.specs.Order.{event_to_join, HbEdge, program, lock, Po, Hb}
use Rattle.event_core.specs.Orderly.{Orderly}
use Rattle.event_core.specs.Wcp.{Strict, rule_a, rule_b, rule_c_left, rule_c_right, Below}
use Rattle.event_core.proofs.OrderProperties.{hb_forward, po_forward}
use Rattle.event_core.proofs.InsideProperties.{inside_from, inside_to}
use Rattle.event_core.proofs.LogProperties.{of_does}
use Rattle.event_core.proofs.RecurrenceProperties.{strict_forward}
use Rattle.event_core.proofs.StrictIsWithinHb.{strict_hb}
use Rattle.trace_laws.proofs.ReorderedLogs.{Reorders, turned, does_to, of_to, thread_lt, thread_le, plain_lt}
use Rattle.trace_laws.proofs.ReorderedLogs.{fork_lt, join_lt}

module _ {log other : List Event} {to from : ℕ → ℕ} (r : Reorders log other to from) where
  -- edges and chains
  program_to : {i j : ℕ} → ProgramEdge log i j → ProgramEdge other (to i) (to j)
  program_to (same_thread u lt a b) = same_thread u (thread_lt r a b lt) (of_to r a) (of_to r b)
  program_to (fork_to_event u v lt a b) = fork_to_event u v (fork_lt r a b lt) (does_to r a) (of_to r b)
  program_to (fork_to_join u v w lt a b) =
      fork_to_join u v w (plain_lt r a b refl refl lt) (does_to r a) (does_to r b)
  program_to (event_to_join u w lt a b) = event_to_join u w (join_lt r a b lt) (of_to r a) (does_to r b)

  acquire_to : {i : ℕ} {u : ThreadId} {l : LockId} → OuterAcquire log i u l → OuterAcquire other (to i) u l
  acquire_to {i = i} {u = u} {l = l} a =
      record { does = does_to r a.does; outer = r.before i u l (of_does a.does) ∙ a.outer }

  release_to : {i : ℕ} {u : ThreadId} {l : LockId} → OuterRelease log i u l → OuterRelease other (to i) u l
  release_to {i = i} {u = u} {l = l} a =
      record { does = does_to r a.does; outer = r.after i u l (of_does a.does) ∙ a.outer }

  edge_to : {i j : ℕ} → HbEdge log i j → HbEdge other (to i) (to j)
  edge_to (program e) = program (program_to e)
  edge_to (lock u v l lt a b) =
      lock u v l (plain_lt r a.does b.does refl refl lt) (release_to a) (acquire_to b)

  po_to : {i j : ℕ} → Po log i j → Po other (to i) (to j)
  po_to here = here
  po_to (step c e) = step (po_to c) (program_to e)

  -- an event that happens before another does so in the other log
  pub hb_to : {i j : ℕ} → Hb log i j → Hb other (to i) (to j)
  hb_to here = here
  hb_to (step c e) = step (hb_to c) (edge_to e)

  -- events that conflict do so in the other log
  pub conflict_to : {i j : ℕ} → Conflict log i j → Conflict other (to i) (to j)
  conflict_to c = record {
    first = c.first;
    second = c.second;
    by = c.by;
    other = c.other;
    does_first = does_to r c.does_first;
    does_second = does_to r c.does_second;
    ops = c.ops;
    threads = c.threads;
  }

  -- event i happens before another, and still comes before it
  hb_lt : (i j : ℕ) → Hb log i j → i < j → to i < to j
  hb_lt i j h lt = elim (cases_lt (to i) (to j)) [
    | inl up ↦ up
    | inr down ↦ absurd (
        let le = hb_forward (hb_to h) in
        let same : to i ≡ to j = omega (arith, le, down) in
        let e : i ≡ j = sym (r.from_to i) ∙ ap from same ∙ r.from_to j in
        omega (arith, lt, e))
  ]

module _ {log other : List Event} {to from : ℕ → ℕ} (r : Reorders log other to from) (w : Orderly log)
    (w' : Orderly other) where
  -- sections: those events of a thread that no outer release ends are inside
  sections_to : {a i : ℕ} {u : ThreadId} {l : LockId} → Inside log u l a i → Inside other u l (to a) (to i)
  sections_to {a = a} {i = i} {u = u} {l = l} h =
      inside_from other u l (to a) (to i) w' (acquire_to r h.opened) (of_to r h.of)
      (thread_le r (of_does h.opened.does) h.of h.from) none
    where
      s : Reorders other log from to
      s = turned r

      none : (k : ℕ) → to a < k → k < to i → OuterRelease other k u l → ⊥
      none k gt lt c =
          let it : Of other k u = of_does c.does in
          let after_a = thread_lt s (of_to r (of_does h.opened.does)) it gt in
          let before_i = thread_lt s it (of_to r h.of) lt in
          let x = r.from_to a in
          let y = r.from_to i in
          inside_to log u l a i (from k) h (omega (arith, after_a, x)) (omega (arith, before_i, y))
          (release_to s c)

  in_section_to : {e i : ℕ} {l : LockId} → InSection log l e i → InSection other l (to e) (to i)
  in_section_to s = record {
    thread = s.thread;
    acquire = to s.acquire;
    section = record { inside = sections_to s.section.inside; closed = release_to r s.section.closed };
    of = of_to r s.of;
    from = thread_le r (of_does s.section.inside.opened.does) s.of s.from;
    to = thread_le r s.of (of_does s.section.closed.does) s.to;
  }

  strict_to : {i j : ℕ} → Strict log i j → Strict other (to i) (to j)
  strict_to (rule_a {r = e} {j = j} m) = rule_a (record {
    before = hb_lt r e j (strict_hb w (rule_a m)) m.before;
    lock = m.lock;
    thread = m.thread;
    acquire = to m.acquire;
    inside = sections_to m.inside;
    access = to m.access;
    in_section = in_section_to m.in_section;
    conflict = conflict_to r m.conflict;
  })
  strict_to (rule_b l lt p q d) =
      rule_b l (plain_lt r p.section.closed.does q.section.closed.does refl refl lt) (in_section_to p)
      (in_section_to q) (strict_to d)
  strict_to (rule_c_left h d) = rule_c_left (hb_to r h) (strict_to d)
  strict_to (rule_c_right d h) = rule_c_right (strict_to d) (hb_to r h)

  below_to : {i j : ℕ} → Below log i j → Below other (to i) (to j)
  below_to (inl d) = inl (strict_to d)
  below_to (inr c) = inr (po_to r c)

-- what is so of two events found back in the log is so of them
pub found : {log other : List Event} {to from : ℕ → ℕ} (P : ℕ → ℕ → Type 0) (i j : ℕ)
    → Reorders log other to from → P (from (to i)) (from (to j)) → P i j
found {to = to} {from = from} P i j r h =
    subst (λ n. P n j) (r.from_to i) (subst (λ n. P (from (to i)) n) (r.from_to j) h)

-- program order is the same in both logs
pub same_po : {log other : List Event} {to from : ℕ → ℕ} (i j : ℕ) → Reorders log other to from
    → Po log i j ↔ Po other (to i) (to j)
same_po {log = log} i j r = ((λ c. po_to r c), (λ c. found (Po log) i j r (po_to (turned r) c)))

-- happens-before is the same in both logs
pub same_hb : {log other : List Event} {to from : ℕ → ℕ} (i j : ℕ) → Reorders log other to from
    → Hb log i j ↔ Hb other (to i) (to j)
same_hb {log = log} i j r = ((λ c. hb_to r c), (λ c. found (Hb log) i j r (hb_to (turned r) c)))

-- strict precedence is the same in both logs
pub same_strict : {log other : List Event} {to from : ℕ → ℕ} (i j : ℕ) → Reorders log other to from
    → Orderly log → Orderly other → Strict log i j ↔ Strict other (to i) (to j)
same_strict {log = log} i j r w w' = (
  (λ d. strict_to r w w' d),
  (λ d. found (Strict log) i j r (strict_to (turned r) w' w d)),
)

-- an event below another in the other log is below it in this one
pub below_from : {log other : List Event} {to from : ℕ → ℕ} (i j : ℕ) → Reorders log other to from
    → Orderly log → Orderly other → Below other (to i) (to j) → Below log i j
below_from {log = log} i j r w w' b = found (Below log) i j r (below_to (turned r) w' w b)

-- an event is not later than one that it is below
pub below_le : {log : List Event} {i j : ℕ} → Below log i j → i ≤ j
below_le {i = i} {j = j} (inl d) = let lt : i < j = strict_forward d in omega (arith, lt)
below_le (inr c) = po_forward c
