-- The releases that an access meets under a lock, and what their clocks count together.
use Rattle.std.proofs.Common.{◌≡◌, ℕ, ◌<◌, List, [], ◌∷◌, map, refl, sym, subst, max, arith, inl, inr}
use Rattle.event_core.specs.declared.events.AccessKind.{AccessKind}
use Rattle.event_core.specs.declared.events.AccessKind.TheVariants.{Read, Write}
use Rattle.event_core.specs.declared.events.Event.{Event}
use Rattle.event_core.specs.declared.ids.LockId.{LockId}
use Rattle.event_core.specs.declared.ids.ThreadId.{ThreadId}
use Rattle.event_core.specs.declared.ids.VarId.{VarId}
use Rattle.event_core.specs.Closed.{Closed, Others}
use Rattle.event_core.specs.Count.{Counts}
use Rattle.event_core.specs.Effect.{access_of}
use Rattle.event_core.specs.Log.{depth, OpsConflict}
use Rattle.event_core.specs.Rows.{Counted, join, no_clock}
use Rattle.event_core.proofs.CountedProperties.{counted_join, counted_same}
use Rattle.lock_queues.specs.Queues.{closed_of}
use Rattle.section_sum.specs.Paired.{IsBelowPaired}
use Rattle.section_sum.specs.Standing.{IsAccessBy}
use Rattle.section_sum.specs.Sums.{sources_of}
use Rattle.section_sum.proofs.PairedSections.{paired_other, other_paired}
use Rattle.wcp_clocks.specs.Parts.{Parts}
use Rattle.wcp_clocks.specs.Met.{joined_all, met_clocks, met_under, release_at}
use Rattle.wcp_clocks.specs.MetReleases.{IsBelowSource, released_at, together}
use Rattle.wcp_clocks.specs.Standing.{StandsFor}
use Rattle.wcp_clocks.proofs.TakeLaws.{sources_joined}

-- the releases of sections, together
together_is : (qs : List Closed) (f : ℕ → ℕ) (ns : List ℕ) (u : ℕ)
    → joined_all qs f ns u ≡ max (f u) (together (map (released_at qs) ns) u)
together_is qs f [] u = omega arith
together_is qs f (n ∷ ns) u =
    let more : joined_all qs (join f (release_at qs n)) ns u
    ≡ max (max (f u) (release_at qs n u)) (together (map (released_at qs) ns) u)
    = together_is qs (join f (release_at qs n)) ns u in
    omega arith

-- those that the summaries name to an access
abbrev pub named : Parts → LockId → VarId → AccessKind → ThreadId → ℕ → ℕ
named p l x k t = together (map (released_at (closed_of p.queues l.0)) (sources_of p.sums l.0 x.0 k t.0))

-- the clock that an access takes under the lock
met_counted : (log : List Event) (p : Parts) (l : LockId) (x : VarId) (k : AccessKind) (t : ThreadId)
    → StandsFor log p
    → Counted log (IsBelowSource log l x k t)
    (met_under (met_clocks p.sums (closed_of p.queues)) x.0 k t.0 l.0)
met_counted log p l x Read t st = st.strict.others l x Write t
met_counted log p l x Write t st =
    counted_join log (Others log l x Read t) (Others log l x Write t)
    (met_clocks p.sums (closed_of p.queues) l.0 x.0 Read t.0)
    (met_clocks p.sums (closed_of p.queues) l.0 x.0 Write t.0) (st.strict.others l x Read t)
    (st.strict.others l x Write t)

-- is that of those releases together
pub sources_count : (log : List Event) (p : Parts) (l : LockId) (x : VarId) (k : AccessKind) (t : ThreadId)
    → StandsFor log p → Counted log (IsBelowSource log l x k t) (named p l x k t)
sources_count log p l x k t st u =
    let met : ℕ → ℕ = met_under (met_clocks p.sums (closed_of p.queues)) x.0 k t.0 l.0 in
    let numbers = sources_of p.sums l.0 x.0 k t.0 in
    let taken : joined_all (closed_of p.queues l.0) no_clock numbers u.0 ≡ max 0 (met u.0)
    = sources_joined p.sums (closed_of p.queues) l.0 x.0 t.0 k no_clock u.0 in
    let lent : joined_all (closed_of p.queues l.0) no_clock numbers u.0 ≡ max 0 (named p l x k t u.0)
    = together_is (closed_of p.queues l.0) no_clock numbers u.0 in
    let is : named p l x k t u.0 ≡ met u.0 = omega arith in
    subst (λ n. Counts log u (IsBelowSource log l x k t) n) (sym is) (met_counted log p l x k t st u)

-- what happens before another thread's section with an access in conflict happens before a release that rule
-- (a) pairs with the access, and the other way round
module _ (log : List Event) (e : Event) (l : LockId) (x : VarId) (i : ℕ) where
  conflicts : (k j : AccessKind) → OpsConflict (access_of x j) (access_of x k)
      → Others log l x j e.thread i → IsBelowSource log l x k e.thread i
  conflicts Read Write c s = s
  conflicts Read Read c s = absurd c
  conflicts Write Read c s = inl s
  conflicts Write Write c s = inr s

  paired_source : (k : AccessKind) → e.op ≡ access_of x k → IsBelowPaired log e l i
      → IsBelowSource log l x k e.thread i
  paired_source k o p =
      let q = paired_other log e l x k p.0 o p.1 in
      let s = q.2 in
      conflicts k q.0 q.1 (record {
        thread = s.thread;
        other = s.other;
        acquire = s.acquire;
        release = p.0;
        section = s.section;
        access = s.access;
        from = s.from;
        to = s.to;
        does = s.does;
        below = p.2;
      })

  source_paired : (k : AccessKind) → e.op ≡ access_of x k → 0 < depth log e.thread l
      → IsBelowSource log l x k e.thread i → IsBelowPaired log e l i
  source_paired k o held = go k o
    where
      from : (k j : AccessKind) → e.op ≡ access_of x k → OpsConflict (access_of x j) (access_of x k)
          → Others log l x j e.thread i → IsBelowPaired log e l i
      from k j o c s = (
        s.release,
        other_paired log e l x k j s.release o held c (record {
          thread = s.thread;
          other = s.other;
          acquire = s.acquire;
          section = s.section;
          access = s.access;
          from = s.from;
          to = s.to;
          does = s.does;
        }),
        s.below,
      )

      go : (k : AccessKind) → e.op ≡ access_of x k → IsBelowSource log l x k e.thread i
          → IsBelowPaired log e l i
      go Read o s = from Read Write o refl s
      go Write o (inl s) = from Write Read o refl s
      go Write o (inr s) = from Write Write o refl s

-- so the releases together count what happens before those that rule (a) pairs with the access
pub sources_paired : (log : List Event) (e : Event) (p : Parts) (t : ThreadId) (l : LockId) (x : VarId)
    (k : AccessKind) → IsAccessBy t x k e → 0 < depth log t l → StandsFor log p
    → Counted log (IsBelowPaired log e l) (named p l x k t)
sources_paired log e p t l x k is held st =
    counted_same log (IsBelowSource log l x k e.thread) (IsBelowPaired log e l) (named p l x k t)
    (λ i. source_paired log e l x i k is.op (subst (λ u. 0 < depth log u l) (sym is.thread) held))
    (λ i. paired_source log e l x i k is.op)
    (subst (λ u. Counted log (IsBelowSource log l x k u) (named p l x k t)) (sym is.thread)
    (sources_count log p l x k t st))
