-- When the clocks stand for a log, and what that gives in numbers alone.
use Rattle.std.specs.Prelude.{ℕ, ◌≡◌, ◌≢◌, ◌<◌, ◌≤◌, List, [], ◌∷◌, ◌++◌, length}
use Rattle.event_core.specs.declared.ids.ThreadId.{ThreadId}
use Rattle.event_core.specs.declared.ids.LockId.{LockId}
use Rattle.event_core.specs.declared.events.Event.{Event}
use Rattle.event_core.specs.declared.events.Op.{Op}
use Rattle.event_core.specs.declared.events.Op.TheVariants.{Acquire, Release, Fork, Join}
use Rattle.event_core.specs.declared.bounds.Limits.{Limits}
use Rattle.event_core.specs.declared.bounds.TheConstants.{MOST_EVENTS}
use Rattle.event_core.specs.Log.{depth}
use Rattle.event_core.specs.Order.{Po, Hb}
use Rattle.event_core.specs.Refusal.{WellFormed}
use Rattle.event_core.specs.Count.{events_of, Past}
use Rattle.event_core.specs.Rows.{Counted, RowsStand}
use Rattle.hb_clocks.specs.State.{HbState, after}

-- each clock counts what is below its thread's latest event or fork, or its lock's latest outer release
pub record StandsFor (log : List Event) (s : HbState) : Type 0 where
  pub po : (t : ThreadId) → Counted log (Past log (Po log) t) (s.po t.0)
  pub hb : RowsStand log (Hb log) s.hb
  -- a thread's own number is that of its events
  pub po_own : (t : ThreadId) → s.po t.0 t.0 ≡ events_of log t
  pub hb_own : (t : ThreadId) → s.hb.thread t.0 t.0 ≡ events_of log t
  pub depths : (t : ThreadId) (l : LockId) → s.depth t.0 l.0 ≡ depth log t l

-- no other thread holds the lock that is acquired
abbrev pub IsAlone : HbState → ThreadId → Op → Type 0
IsAlone s t (Acquire l) = (u : ThreadId) → u.0 ≢ t.0 → s.depth u.0 l.0 ≡ 0
IsAlone s t _ = Unit {0}

-- no thread forks or joins itself
abbrev pub IsApart : ThreadId → Op → Type 0
IsApart t (Fork u) = u.0 ≢ t.0
IsApart t (Join u) = u.0 ≢ t.0
IsApart t _ = Unit {0}

-- what is asked of an event
pub record Admits (s : HbState) (t : ThreadId) (op : Op) : Type 0 where
  pub alone : IsAlone s t op
  pub apart : IsApart t op

-- the thread holds the lock that it releases
abbrev pub IsHeldRelease : HbState → ThreadId → Op → Type 0
IsHeldRelease s t (Release l) = 0 < s.depth t.0 l.0
IsHeldRelease s t _ = ⊥

-- no number is above this one
pub record IsAtMost (most : ℕ) (s : HbState) : Type 0 where
  pub po : (t u : ThreadId) → s.po t.0 u.0 ≤ most
  pub hb : (t u : ThreadId) → s.hb.thread t.0 u.0 ≤ most
  pub lock : (l : LockId) (u : ThreadId) → s.hb.lock l.0 u.0 ≤ most
  pub depth : (t : ThreadId) (l : LockId) → s.depth t.0 l.0 ≤ most

-- no number is above the greatest number of events
abbrev pub IsFew : HbState → Type 0
IsFew s = IsAtMost MOST_EVENTS s

-- the step keeps the meaning
abbrev pub StepStands : Type 0
StepStands = (limits : Limits) (log : List Event) (e : Event) (s : HbState)
    → WellFormed limits (log ++ e ∷ []) → StandsFor log s → StandsFor (log ++ e ∷ []) (after e s)

-- a legal event is admitted
abbrev pub AdmitsLegal : Type 0
AdmitsLegal = (limits : Limits) (log : List Event) (e : Event) (s : HbState)
    → WellFormed limits (log ++ e ∷ []) → StandsFor log s → Admits s e.thread e.op

-- a log within the greatest number of events has few
abbrev pub FewInLog : Type 0
FewInLog = (log : List Event) (s : HbState) → length log ≤ MOST_EVENTS → StandsFor log s → IsFew s
