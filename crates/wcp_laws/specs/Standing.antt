-- When the numbers stand for a log: each counts a set of its events.
use Rattle.std.specs.Prelude.{ℕ, ◌≡◌, ◌+◌, ◌<◌, ◌↔◌, List, [], ◌∷◌, ◌++◌, IsTrue}
use Rattle.std.proofs.Math.ListN.{take}
use Rattle.event_core.specs.declared.ids.ThreadId.{ThreadId}
use Rattle.event_core.specs.declared.ids.LockId.{LockId}
use Rattle.event_core.specs.declared.ids.VarId.{VarId}
use Rattle.event_core.specs.declared.events.Event.{Event}
use Rattle.event_core.specs.declared.events.AccessKind.{AccessKind}
use Rattle.event_core.specs.declared.bounds.Limits.{Limits}
use Rattle.event_core.specs.Log.{depth}
use Rattle.event_core.specs.Order.{Hb}
use Rattle.event_core.specs.Wcp.{Strict}
use Rattle.event_core.specs.Refusal.{WellFormed}
use Rattle.event_core.specs.Count.{events_of}
use Rattle.event_core.specs.Rows.{Counted, RowsStand}
use Rattle.event_core.specs.Closed.{Open, Noted, Others, Has, ClosedStand}
use Rattle.wcp_laws.specs.State.{State}
use Rattle.wcp_laws.specs.Step.{after}

pub record StandsFor (log : List Event) (s : State) : Type 0 where
  pub hb : RowsStand log (Hb log) s.hb
  pub strict : RowsStand log (Strict log) s.strict
  -- a thread's own number is that of its events
  pub own : (t : ThreadId) → s.hb.thread t.0 t.0 ≡ events_of log t
  pub depths : (t : ThreadId) (l : LockId) → s.depth t.0 l.0 ≡ depth log t l
  pub opened : (t : ThreadId) (l : LockId) (a : ℕ) → Open log t l a
      → s.opened t.0 l.0 ≡ events_of (take a log) t + 1
  pub held : (t : ThreadId) (l : LockId) → Has l.0 (s.held t.0) ↔ (0 < depth log t l)
  pub noted : (t : ThreadId) (l : LockId) (x : VarId) (k : AccessKind)
      → IsTrue (s.noted t.0 l.0 x.0 k) ↔ Noted log t l x k
  pub others : (l : LockId) (x : VarId) (k : AccessKind) (t : ThreadId)
      → Counted log (Others log l x k t) (s.met_clock l.0 x.0 k t.0)
  pub closed : (l : LockId) → ClosedStand log l (s.closed l.0)

-- an event that is legal after the log makes numbers that stand for the longer log
abbrev pub StepStands : Type 0
StepStands = (limits : Limits) (log : List Event) (e : Event) (s : State)
    → WellFormed limits (log ++ e ∷ []) → StandsFor log s → StandsFor (log ++ e ∷ []) (after e s)
