-- Sections as the clocks keep them: open ones, with the accesses that they have had, and closed ones, with
-- the position of the acquire and the clock of the release.
use Rattle.std.specs.Prelude.{ℕ, ◌≡◌, ◌+◌, ◌<◌, ◌≤◌, List, [], ◌∷◌, ◌++◌, length, Bool, ◌&&◌, cond, nat_eq}
use Rattle.std.specs.Prelude.{nat_le}
use Rattle.std.proofs.Math.ListN.{take}
use Rattle.event_core.specs.declared.ids.ThreadId.{ThreadId}
use Rattle.event_core.specs.declared.ids.LockId.{LockId}
use Rattle.event_core.specs.declared.ids.VarId.{VarId}
use Rattle.event_core.specs.declared.events.Event.{Event}
use Rattle.event_core.specs.declared.events.Op.TheVariants.{Acquire, Release}
use Rattle.event_core.specs.Log.{Does, OuterAcquire, op_releases, depth, Section}
use Rattle.event_core.specs.Order.{Hb}
use Rattle.event_core.specs.Count.{events_of}
use Rattle.event_core.specs.declared.events.AccessKind.{AccessKind}
use Rattle.event_core.specs.Effect.{access_of}
use Rattle.event_core.specs.Rows.{no_clock, join, Counted}

-- the section that u's outer acquire a opened is open at the log's end
pub record Open (log : List Event) (u : ThreadId) (l : LockId) (a : ℕ) : Type 0 where
  pub opened : OuterAcquire log a u l
  pub held : (k : ℕ) → a < k → k ≤ length log → 0 < depth (take k log) u l

-- the event, which follows the log, opens a section of the thread on the lock
pub record OpensSection (log : List Event) (t : ThreadId) (l : LockId) (e : Event) : Type 0 where
  pub thread : e.thread ≡ t
  pub op : e.op ≡ Acquire l
  pub outer : depth log t l ≡ 0

-- the event, which follows the log, ends the thread's section on the lock
pub record EndsSection (log : List Event) (t : ThreadId) (l : LockId) (e : Event) : Type 0 where
  pub thread : e.thread ≡ t
  pub op : e.op ≡ Release l
  pub outer : depth log t l ≡ 1

-- the thread's open section on the lock has such an access
pub record Noted (log : List Event) (t : ThreadId) (l : LockId) (x : VarId) (k : AccessKind) : Type 0 where
  pub acquire : ℕ
  pub is_open : Open log t l acquire
  pub access : ℕ
  pub from : acquire ≤ access
  pub does : Does log access t (access_of x k)

-- whether the event, which follows the log, ends a section on the lock: it is an outer release of it
abbrev pub ends : List Event → LockId → Event → Bool
ends log l e = op_releases l e.op && nat_eq (depth (log ++ e ∷ []) e.thread l) 0

-- how many of the events, which follow those of the past, end a section on the lock
abbrev pub ended_after : List Event → LockId → List Event → ℕ
ended_after past l [] = 0
ended_after past l (e ∷ es) = cond (ends past l e) 1 0 + ended_after (past ++ e ∷ []) l es

-- how many sections on the lock the log ends
unfoldable pub ended : List Event → LockId → ℕ
ended log l = ended_after [] l log

-- the number of the section on the lock that ends at r: sections on a lock are numbered from 1, in the order
-- of their releases
abbrev pub number_of : List Event → LockId → ℕ → ℕ
number_of log l r = ended (take r log) l + 1

-- a section on the lock, by another thread than t, has such an access and ends at r
pub record OtherSection (log : List Event) (l : LockId) (x : VarId) (k : AccessKind) (t : ThreadId) (r : ℕ)
    : Type 0 where
  pub thread : ThreadId
  pub other : thread ≡ t → ⊥
  pub acquire : ℕ
  pub section : Section log thread l acquire r
  pub access : ℕ
  pub from : acquire ≤ access
  pub to : access ≤ r
  pub does : Does log access thread (access_of x k)

-- i happens before the end of a section on the lock, by another thread than t, that has such an access
pub record Others (log : List Event) (l : LockId) (x : VarId) (k : AccessKind) (t : ThreadId) (i : ℕ)
    : Type 0 where
  pub thread : ThreadId
  pub other : thread ≡ t → ⊥
  pub acquire : ℕ
  pub release : ℕ
  pub section : Section log thread l acquire release
  pub access : ℕ
  pub from : acquire ≤ access
  pub to : access ≤ release
  pub does : Does log access thread (access_of x k)
  pub below : Hb log i release

-- a closed section: its thread, the position of its acquire, and the clock of its release
pub record Closed : Type 0 where
  pub thread : ℕ
  pub position : ℕ
  pub release : ℕ → ℕ

-- a is one of the list
pub data Has {A : Type 0} (a : A) : List A → Type 0 where
  first : (b : A) (bs : List A) → a ≡ b → Has a (b ∷ bs)
  later : (b : A) (bs : List A) → Has a bs → Has a (b ∷ bs)

-- the entry is of the section
pub record IsClosed (log : List Event) (u : ThreadId) (l : LockId) (a r : ℕ) (q : Closed) : Type 0 where
  pub section : Section log u l a r
  pub thread : q.thread ≡ u.0
  pub position : q.position ≡ events_of (take a log) u + 1
  pub release : Counted log (λ i. Hb log i r) q.release

-- the entries are those of the closed sections on the lock
pub record ClosedStand (log : List Event) (l : LockId) (qs : List Closed) : Type 0 where
  -- each entry is of a section, and each section has an entry
  pub sound : (q : Closed) → Has q qs → (u : ThreadId) × (a : ℕ) × (r : ℕ) × IsClosed log u l a r q
  pub complete : (u : ThreadId) (a r : ℕ) → Section log u l a r
      → (q : Closed) × Has q qs × IsClosed log u l a r q

-- the clock counts the acquire of the section
abbrev pub is_counted : (ℕ → ℕ) → Closed → Bool
is_counted c q = nat_le q.position (c q.thread)

-- the greatest release clock of the sections whose acquire is counted
abbrev pub below_closed : (ℕ → ℕ) → List Closed → ℕ → ℕ
below_closed c [] = no_clock
below_closed c (q ∷ qs) = join (cond (is_counted c q) q.release no_clock) (below_closed c qs)

-- how many of the sections are counted
abbrev pub number_counted : (ℕ → ℕ) → List Closed → ℕ
number_counted c [] = 0
number_counted c (q ∷ qs) = cond (is_counted c q) 1 0 + number_counted c qs
