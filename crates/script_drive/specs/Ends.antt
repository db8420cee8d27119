-- How workers end, and what is known once all have.
use Rattle.std.specs.Prelude.{◌≡◌, ℕ, Bool, List, Option, Some, None, Result, Ok, Err}
use Rattle.std.specs.Prelude.{IfErr, IfOk, IfSome}
use Rattle.std.specs.List.{All}
use mathlib.Core.List.{IsPrefix}
use Rattle.event_core.specs.declared.bounds.Limits.{Limits}
use Rattle.event_core.specs.declared.events.Event.{Event}
use Rattle.event_core.specs.declared.ids.ThreadId.{ThreadId}
use Rattle.event_core.specs.Steps.{log_of, own_events}
use Rattle.log_pass.specs.declared.views.PassView.{PassView}
use Rattle.script_text.specs.declared.lines.ScriptLine.{ScriptLine}
use Rattle.script_text.specs.Lines.{thread_of}
use Rattle.script_drive.specs.declared.faults.DriveFault.{DriveFault}
use Rattle.script_drive.specs.declared.faults.Halt.{Halt}
use Rattle.script_drive.specs.Faults.{own_fault, IsHaltOf}
use Rattle.script_drive.specs.Lines.{lines_by, Follows, IsJoined, IsUnjoined}
use Rattle.script_drive.specs.Workers.{Done}

-- each of these lines passed the gate: it admitted the line, and was told that the line was done
abbrev pub PassedGate : (ThreadId → ℕ → Type 0) → (ThreadId → ℕ → Type 0) → List ScriptLine → Type 0
PassedGate admitted told lines = All (λ l. admitted (thread_of l) l.line × told (thread_of l) l.line) lines

-- how a worker ends: with its last pass, or without one where it sent that to the worker that joins it; or by
-- a halt
abbrev pub WorkerEnd : Type 0
WorkerEnd = Result (Option PassView) Halt

-- so ends the worker of the thread: all its lines are done, or this is why it ended before
pub record HasEnded (m : Limits) (ahead : Bool) (script : List ScriptLine)
    (admitted told : ThreadId → ℕ → Type 0) (t : ThreadId) (end : WorkerEnd) : Type 0 where
  pub passed : IfOk end (λ last. PassedGate admitted told (lines_by t script))
  pub last : IfOk end (λ last. IfSome last (Done script t))
  -- it sent its last pass only where a line joins it
  pub sent : IfOk end (λ last. last ≡ None → IsJoined script t)
  pub halt : IfErr end (IsHaltOf m ahead script)

-- a worker's own fault, if it ended by one
abbrev pub end_fault : WorkerEnd → Option DriveFault
end_fault (Ok last) = None
end_fault (Err halt) = own_fault halt

-- what the pass has seen begins with a log that has of another pass's thread just that pass's events
pub record HasMet (p other : PassView) : Type 0 where
  pub log : List Event
  pub begins : IsPrefix log (log_of p.seen)
  pub own : log_of other.mine ≡ own_events other.thread log

-- the worker ended by no halt, and the pass has met its last pass, if it gave one back
abbrev pub EndMet : PassView → WorkerEnd → Type 0
EndMet p (Ok (Some last)) = HasMet p last
EndMet p (Ok None) = Unit {0}
EndMet p (Err halt) = ⊥

-- what the pass has seen begins with a log in which the thread made all its lines
pub record SawAll (script : List ScriptLine) (t : ThreadId) (p : PassView) : Type 0 where
  pub log : List Event
  pub begins : IsPrefix log (log_of p.seen)
  pub made : Follows (own_events t log) (lines_by t script)

-- What is known of a worker's thread once no worker ended by a halt: its lines passed the gate, and where no
-- line joins the thread, the pass saw them all.
pub record IsThrough (script : List ScriptLine) (admitted told : ThreadId → ℕ → Type 0) (p : PassView)
    (t : ThreadId) : Type 0 where
  pub passed : PassedGate admitted told (lines_by t script)
  pub saw : IsUnjoined script t → SawAll script t p
