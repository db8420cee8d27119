-- When the queues stand for a log, and what that says of the section that a release finds.
use Rattle.std.specs.Prelude.{ℕ, ◌≡◌, ◌+◌, ◌-◌, ◌<◌, ◌≤◌, List, length}
use Rattle.std.proofs.Math.ListN.{take}
use Rattle.event_core.specs.declared.ids.ThreadId.{ThreadId}
use Rattle.event_core.specs.declared.ids.LockId.{LockId}
use Rattle.event_core.specs.declared.events.Event.{Event}
use Rattle.event_core.specs.Log.{Section}
use Rattle.event_core.specs.Order.{Hb}
use Rattle.event_core.specs.Wcp.{Strict}
use Rattle.event_core.specs.Count.{events_of, Past}
use Rattle.event_core.specs.Rows.{Counted}
use Rattle.event_core.specs.Closed.{Closed, IsClosed, Open, OpensSection, EndsSection, ended, number_of}
use Rattle.lock_queues.specs.Sections.{closed_at}
use Rattle.lock_queues.specs.Queues.{AllQueues, closed_of, opened_of, found_of}

-- an entry for each section on the lock that has ended, in the order of their releases
pub record AreSections (log : List Event) (l : LockId) (qs : List Closed) : Type 0 where
  pub count : length qs ≡ ended log l
  pub each : (u : ThreadId) (a r : ℕ) → Section log u l a r
      → IsClosed log u l a r (closed_at qs (number_of log l r - 1))

-- of each lock the closed sections, of each thread and lock the position of the acquire of the open one, and
-- how many of the closed ones the thread has found
pub record AreOf (log : List Event) (closed : ℕ → List Closed) (opened found : ℕ → ℕ → ℕ) : Type 0 where
  pub closed_are : (l : LockId) → AreSections log l (closed l.0)
  pub opened_are : (t : ThreadId) (l : LockId) (a : ℕ) → Open log t l a
      → opened t.0 l.0 ≡ events_of (take a log) t + 1
  -- the acquires of the sections that a thread has found strictly precede an event of it, or its fork
  pub found_are : (t : ThreadId) (l : LockId) (u : ThreadId) (a r : ℕ) → Section log u l a r
      → number_of log l r ≤ found l.0 t.0 → Past log (Strict log) t a
  -- it has found no more than have ended, and none before its first event
  pub most : (t : ThreadId) (l : LockId) → found l.0 t.0 ≤ ended log l
  pub none : (t : ThreadId) (l : LockId) → events_of log t ≡ 0 → found l.0 t.0 ≡ 0

abbrev pub StandsFor : List Event → AllQueues → Type 0
StandsFor log v = AreOf log (closed_of v) (opened_of v) (found_of v)

-- the event, which follows the log, neither opens nor ends a section
pub record IsOther (log : List Event) (e : Event) : Type 0 where
  pub opens : (l : LockId) → OpensSection log e.thread l e → ⊥
  pub ends : (l : LockId) → EndsSection log e.thread l e → ⊥

-- the clock counts the thread's event
abbrev pub CountsEvent : List Event → (ℕ → ℕ) → ThreadId → ℕ → Type 0
CountsEvent log clock u i = events_of (take i log) u < clock u.0

-- it counts the acquire of no section on the lock that has ended
abbrev pub CountsNone : List Event → LockId → (ℕ → ℕ) → Type 0
CountsNone log l clock = (u : ThreadId) (a r : ℕ) → Section log u l a r → CountsEvent log clock u a → ⊥

-- of those whose acquire it counts the latest is the thread's, and the other clock is that of its release
pub record IsLatest (log : List Event) (l : LockId) (clock : ℕ → ℕ) (u : ThreadId) (release_clock : ℕ → ℕ)
    : Type 0 where
  pub acquire : ℕ
  pub release : ℕ
  pub section : Section log u l acquire release
  pub counted : CountsEvent log clock u acquire
  pub latest : (v : ThreadId) (b s : ℕ) → Section log v l b s → CountsEvent log clock v b → s ≤ release
  pub clock_is : Counted log (λ i. Hb log i release) release_clock
