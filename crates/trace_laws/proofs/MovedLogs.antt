-- A log and another that has some of its events: what is so of the events that both have.
use Rattle.std.proofs.Common.{◌≡◌, ℕ, suc, ◌<◌, ◌≤◌, List, true, length, sym, ap, subst}
use Rattle.std.proofs.Common.{◌∙◌, arith, take, ◌⊎◌, Some, slice_get}
use Rattle.std.proofs.lemmas.Bool.{cases_lt}
use Rattle.std.proofs.lemmas.Option.{slice_get_within}
use mathlib.Core.Logic.{inl, inr}
use Rattle.event_core.specs.declared.ids.ThreadId.{ThreadId}
use Rattle.event_core.specs.declared.ids.LockId.{LockId}
use Rattle.event_core.specs.declared.events.Event.{Event}
use Rattle.event_core.specs.declared.events.Op.{Op}
use Rattle.event_core.specs.declared.events.Op.TheVariants.{Acquire, Release}
use Rattle.event_core.specs.Log.{Does, Of, depth, OuterAcquire, OuterRelease, Inside, Section, InSection}
use Rattle.event_core.specs.Log.{Conflict}
use Rattle.event_core.specs.Wcp.{Meets}
use Rattle.event_core.proofs.DepthProperties.{event_at}
use Rattle.trace_laws.specs.Repeats.{is_access}

-- the other log has the events of this one that are kept, in their order, and those that it has not are
-- accesses
pub record Moved (log other : List Event) (Kept : ℕ → Type 0) (to : ℕ → ℕ) : Type 0 where
  pub events : (i : ℕ) → Kept i → slice_get other (to i) ≡ slice_get log i
  pub depths : (k : ℕ) (u : ThreadId) (l : LockId) → depth (take (to k) other) u l ≡ depth (take k log) u l
  pub rises : (i j : ℕ) → i ≤ j → to i ≤ to j
  pub next : (i : ℕ) → Kept i → to (suc i) ≡ suc (to i)
  pub onto : (k : ℕ) (e : Event) → slice_get other k ≡ Some e → (i : ℕ) × Kept i × (to i ≡ k)
  pub cases : (i : ℕ) (u : ThreadId) (o : Op) → Does log i u o → Kept i ⊎ (is_access o ≡ true)

module _ {log other : List Event} {Kept : ℕ → Type 0} {to : ℕ → ℕ} (a : Moved log other Kept to) where
  -- the order of the indices
  pub lt_to : {i j : ℕ} → Kept i → i < j → to i < to j
  lt_to {i = i} {j = j} k lt =
      let up = a.rises (suc i) j lt in let n = a.next i k in omega (arith, up, n)

  -- kept events in order in the other log are in order in this one
  pub lt_from : {i j : ℕ} → to i < to j → i < j
  lt_from {i = i} {j = j} lt = elim (cases_lt i j) [
    | inl h ↦ h
    | inr h ↦ absurd (let up = a.rises j i h in omega (arith, up, lt))
  ]

  pub le_from : {i j : ℕ} → Kept j → to i ≤ to j → i ≤ j
  le_from {i = i} {j = j} k le = elim (cases_lt j i) [
    | inl h ↦ absurd (let up = lt_to k h in omega (arith, up, le))
    | inr h ↦ h
  ]

  -- two kept events with one index in the other log are one
  pub one_index : {i j : ℕ} → Kept i → Kept j → to i ≡ to j → i ≡ j
  one_index {i = i} {j = j} k k' e =
      let p : i ≤ j = le_from k' (omega (arith, e)) in
      let q : j ≤ i = le_from k (omega (arith, e)) in
      omega (arith, p, q)

  -- what an event does, and its thread
  pub does_to : {i : ℕ} {u : ThreadId} {p : Op} → Kept i → Does log i u p → Does other (to i) u p
  does_to {i = i} k d =
      record { event = d.event; at = a.events i k ∙ d.at; thread = d.thread; does = d.does }

  -- what a kept event does in the other log, it does in this one
  pub does_from : {i x : ℕ} {u : ThreadId} {p : Op} → Kept i → to i ≡ x → Does other x u p → Does log i u p
  does_from {i = i} k e d =
      record {
        event = d.event;
        at = sym (a.events i k) ∙ ap (slice_get other) e ∙ d.at;
        thread = d.thread;
        does = d.does;
      }

  -- a kept event is of its thread in the other log too
  pub of_to : {i : ℕ} {u : ThreadId} → Kept i → Of log i u → Of other (to i) u
  of_to {i = i} k d = record { event = d.event; at = a.events i k ∙ d.at; thread = d.thread }

  -- a kept event is of its thread in this log too
  pub of_from : {i x : ℕ} {u : ThreadId} → Kept i → to i ≡ x → Of other x u → Of log i u
  of_from {i = i} k e d =
      record {
        event = d.event;
        at = sym (a.events i k) ∙ ap (slice_get other) e ∙ d.at;
        thread = d.thread;
      }

  -- the index of this event of the other log
  pub from_of : {x : ℕ} {u : ThreadId} → Of other x u → (i : ℕ) × Kept i × (to i ≡ x)
  from_of {x = x} o = a.onto x o.event o.at

  -- an event of the other log is a kept event of this one
  pub from_does : {x : ℕ} {u : ThreadId} {p : Op} → Does other x u p → (i : ℕ) × Kept i × (to i ≡ x)
  from_does {x = x} o = a.onto x o.event o.at

  -- an event that is no access is kept
  pub kept_acquire : {i : ℕ} {u : ThreadId} {l : LockId} → Does log i u (Acquire l) → Kept i
  kept_acquire {i = i} {u = u} {l = l} d =
      elim (a.cases i u (Acquire l) d) [ inl k ↦ k | inr t ↦ absurd (cc) ]

  -- each release is kept
  pub kept_release : {i : ℕ} {u : ThreadId} {l : LockId} → Does log i u (Release l) → Kept i
  kept_release {i = i} {u = u} {l = l} d =
      elim (a.cases i u (Release l) d) [ inl k ↦ k | inr t ↦ absurd (cc) ]

  -- sections
  pub acquire_to : {i : ℕ} {u : ThreadId} {l : LockId} → Kept i → OuterAcquire log i u l
      → OuterAcquire other (to i) u l
  acquire_to {i = i} {u = u} {l = l} k d =
      record { does = does_to k d.does; outer = a.depths i u l ∙ d.outer }

  -- an outer acquire of the other log is one of this log
  pub acquire_from : {i x : ℕ} {u : ThreadId} {l : LockId} → Kept i → to i ≡ x → OuterAcquire other x u l
      → OuterAcquire log i u l
  acquire_from {i = i} {u = u} {l = l} k e d =
      record {
        does = does_from k e d.does;
        outer = sym (a.depths i u l) ∙ ap (λ (n : ℕ). depth (take n other) u l) e ∙ d.outer;
      }

  -- a kept outer release is one of the other log
  pub release_to : {i : ℕ} {u : ThreadId} {l : LockId} → Kept i → OuterRelease log i u l
      → OuterRelease other (to i) u l
  release_to {i = i} {u = u} {l = l} k d =
      record {
        does = does_to k d.does;
        outer = ap (λ (n : ℕ). depth (take n other) u l) (sym (a.next i k)) ∙ a.depths (suc i) u l ∙ d.outer;
      }

  -- an outer release of the other log is one of this log
  pub release_from : {i x : ℕ} {u : ThreadId} {l : LockId} → Kept i → to i ≡ x → OuterRelease other x u l
      → OuterRelease log i u l
  release_from {i = i} {u = u} {l = l} k e d =
      record {
        does = does_from k e d.does;
        outer =
            sym (a.depths (suc i) u l)
            ∙ ap (λ (n : ℕ). depth (take n other) u l) (a.next i k ∙ ap suc e)
            ∙ d.outer;
      }

  pub inside_to : {b i : ℕ} {u : ThreadId} {l : LockId} → Kept b → Kept i → Inside log u l b i
      → Inside other u l (to b) (to i)
  inside_to {b = b} {i = i} {u = u} {l = l} kb ki d = record {
    opened = acquire_to kb d.opened;
    of = mine;
    from = a.rises b i d.from;
    held = held;
  }
    where
      mine : Of other (to i) u
      mine = of_to ki d.of

      within : to i < length other
      within = slice_get_within other (to i) mine.event mine.at

      held : (k : ℕ) → to b < k → k ≤ to i → 0 < depth (take k other) u l
      held k lt le =
          let x = event_at other k (let w = within in omega (arith, w, le)) in
          let p = a.onto k x.0 x.1 in
          let same : to p.0 ≡ k = p.2 in
          let up : 0 < depth (take p.0 log) u l
          = d.held p.0 (lt_from (omega (arith, same, lt))) (le_from ki (omega (arith, same, le))) in
          subst (λ (n : ℕ). 0 < depth (take n other) u l) same
          (subst (λ (n : ℕ). 0 < n) (sym (a.depths p.0 u l)) up)

  pub inside_from : {b i x y : ℕ} {u : ThreadId} {l : LockId} → Kept b → Kept i → to b ≡ x → to i ≡ y
      → Inside other u l x y → Inside log u l b i
  inside_from {b = b} {i = i} {x = x} {y = y} {u = u} {l = l} kb ki e f d = record {
    opened = acquire_from kb e d.opened;
    of = of_from ki f d.of;
    from = le_from ki (let le : x ≤ y = d.from in omega (arith, le, e, f));
    held =
        λ k lt le. subst (λ (n : ℕ). 0 < n) (a.depths k u l)
        (d.held (to k) (let up = lt_to kb lt in omega (arith, up, e))
        (let up = a.rises k i le in omega (arith, up, f)));
  }

  pub section_to : {b r : ℕ} {u : ThreadId} {l : LockId} → Kept b → Kept r → Section log u l b r
      → Section other u l (to b) (to r)
  section_to kb kr s = record { inside = inside_to kb kr s.inside; closed = release_to kr s.closed }

  pub section_from : {b r x y : ℕ} {u : ThreadId} {l : LockId} → Kept b → Kept r → to b ≡ x → to r ≡ y
      → Section other u l x y → Section log u l b r
  section_from kb kr e f s =
      record { inside = inside_from kb kr e f s.inside; closed = release_from kr f s.closed }

  -- a kept event of a section is in the section in the other log
  pub in_section_to : {r i : ℕ} {l : LockId} → Kept i → InSection log l r i → InSection other l (to r) (to i)
  in_section_to {r = r} {i = i} ki s = record {
    thread = s.thread;
    acquire = to s.acquire;
    section =
        section_to (kept_acquire s.section.inside.opened.does) (kept_release s.section.closed.does)
        s.section;
    of = of_to ki s.of;
    from = a.rises s.acquire i s.from;
    to = a.rises i r s.to;
  }

  -- an event of a section of the other log is in the section in this log
  pub in_section_from : {r i x y : ℕ} {l : LockId} → Kept r → Kept i → to r ≡ x → to i ≡ y
      → InSection other l x y → InSection log l r i
  in_section_from {r = r} {i = i} {x = x} {y = y} kr ki e f s =
      let p = from_does s.section.inside.opened.does in
      let same : to p.0 ≡ s.acquire = p.2 in
      record {
        thread = s.thread;
        acquire = p.0;
        section = section_from p.1 kr same e s.section;
        of = of_from ki f s.of;
        from = le_from ki (let le : s.acquire ≤ y = s.from in omega (arith, le, f, same));
        to = le_from kr (let le : y ≤ x = s.to in omega (arith, le, e, f));
      }

  -- conflicts, and the premise of rule (a)
  pub conflict_to : {i j : ℕ} → Kept i → Kept j → Conflict log i j → Conflict other (to i) (to j)
  conflict_to ki kj c = record {
    first = c.first;
    second = c.second;
    by = c.by;
    other = c.other;
    does_first = does_to ki c.does_first;
    does_second = does_to kj c.does_second;
    ops = c.ops;
    threads = c.threads;
  }

  -- a conflict of the other log is one of this log
  pub conflict_from : {i j x y : ℕ} → Kept i → Kept j → to i ≡ x → to j ≡ y → Conflict other x y
      → Conflict log i j
  conflict_from ki kj e f c = record {
    first = c.first;
    second = c.second;
    by = c.by;
    other = c.other;
    does_first = does_from ki e c.does_first;
    does_second = does_from kj f c.does_second;
    ops = c.ops;
    threads = c.threads;
  }

  -- a premise of rule (a) whose access is kept is one of the other log
  pub meets_to : {r j : ℕ} → Kept j → (m : Meets log r j) → Kept m.access → Meets other (to r) (to j)
  meets_to kj m ka = record {
    before = lt_to (kept_release m.in_section.section.closed.does) m.before;
    lock = m.lock;
    thread = m.thread;
    acquire = to m.acquire;
    inside = inside_to (kept_acquire m.inside.opened.does) kj m.inside;
    access = to m.access;
    in_section = in_section_to ka m.in_section;
    conflict = conflict_to ka kj m.conflict;
  }

  -- a premise of rule (a) of the other log is one of this log
  pub meets_from : {r j x y : ℕ} → Kept r → Kept j → to r ≡ x → to j ≡ y → Meets other x y → Meets log r j
  meets_from {x = x} {y = y} kr kj e f m =
      let p = from_does m.inside.opened.does in
      let q = from_does m.conflict.does_first in
      let before : x < y = m.before in
      record {
        before = lt_from (omega (arith, before, e, f));
        lock = m.lock;
        thread = m.thread;
        acquire = p.0;
        inside = inside_from p.1 kj p.2 f m.inside;
        access = q.0;
        in_section = in_section_from kr q.1 e q.2 m.in_section;
        conflict = conflict_from q.1 kj q.2 f m.conflict;
      }
