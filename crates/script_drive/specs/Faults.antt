-- Why a drive ends before its script does: which faults a script has, and which of several is answered.
use Rattle.std.specs.Prelude.{◌≡◌, ℕ, ◌+◌, ◌≤◌, ◌⊎◌, ◌==◌, ◌&&◌, Bool, true, false, not, List, [], ◌∷◌, ◌++◌}
use Rattle.std.specs.Prelude.{Option, Some, None, IsSome, Result, Ok, Err}
use Rattle.std.specs.List.{All, Contains}
use Rattle.event_core.specs.declared.ids.ThreadId.{ThreadId}
use Rattle.event_core.specs.declared.events.Act.{Act}
use Rattle.event_core.specs.declared.events.Act.TheVariants.{One, Swap}
use Rattle.event_core.specs.declared.events.Op.{Op}
use Rattle.event_core.specs.declared.events.Op.TheVariants.{Acquire, Join}
use Rattle.event_core.specs.declared.events.Event.{Event}
use Rattle.event_core.specs.declared.bounds.Limits.{Limits}
use Rattle.event_core.specs.declared.replies.Refusal.{Refusal}
use Rattle.event_core.specs.declared.replies.Refusal.TheVariants as refusals
use Rattle.event_core.specs.Acts.{act_refusal}
use Rattle.event_core.specs.Refusal.{op_is_acquire, WellFormed}
use Rattle.event_core.specs.Steps.{own_events}
use Rattle.log_pass.specs.declared.views.PassView.{PassView}
use Rattle.script_text.specs.declared.lines.ScriptLine.{ScriptLine}
use Rattle.script_text.specs.Lines.{fork_of, thread_of}
use Rattle.script_drive.specs.declared.faults.DriveFault.{DriveFault}
use Rattle.script_drive.specs.declared.faults.DriveFault.TheVariants.{Stuck, Refused, NoWorker, OutOfMemory}
use Rattle.script_drive.specs.declared.faults.Halt.{Halt}
use Rattle.script_drive.specs.declared.faults.Halt.TheVariants.{Fault, Abandoned, NotForked}
use Rattle.script_drive.specs.Lines.{lines_by, Follows}
use Rattle.script_drive.specs.Runs.{HasStarted, IsRunOf}
use Rattle.script_drive.specs.Workers.{HasDone, SawRun}

-- ---- one worker

-- the fault of a line that was tried as often as patience allows
abbrev pub stuck_at : ScriptLine → DriveFault
stuck_at l = Stuck (thread_of l) l.line

-- the fault of a line whose call was refused so
abbrev pub refused_at : ScriptLine → Refusal → DriveFault
refused_at l refusals.OutOfMemory = OutOfMemory
refused_at l why = Refused (thread_of l) l.line why

-- a worker's own fault; one that ended because another did has none
abbrev pub own_fault : Halt → Option DriveFault
own_fault (Fault f) = Some f
own_fault (Abandoned l) = None
own_fault (NotForked n) = None

-- ---- which of several faults is answered

-- want of memory comes before all lines
abbrev pub rank : DriveFault → ℕ
rank OutOfMemory = 0
rank (Stuck t n) = n + 1
rank (Refused t n why) = n + 1
rank (NoWorker n) = n + 1

-- the fault is one of these, and none of them comes before it
pub record IsFirst (faults : List DriveFault) (f : DriveFault) : Type 0 where
  pub one : Contains faults f
  pub first : All (λ g. rank f ≤ rank g) faults

-- the fault is one of these two, and neither comes before it
abbrev pub IsEarlier : DriveFault → DriveFault → DriveFault → Type 0
IsEarlier x y f = ((f ≡ x) ⊎ (f ≡ y)) × (rank f ≤ rank x) × (rank f ≤ rank y)

-- the fault is answered where a worker ended so, and this is the first fault of the others: the first of
-- both. Where there is none, it is that the line at which it was abandoned is stuck, or that there is no
-- worker for the thread that the line forks.
abbrev pub IsAnswer : Halt → Option DriveFault → DriveFault → Type 0
IsAnswer (Fault own) (Some other) f = IsEarlier own other f
IsAnswer (Fault own) None f = f ≡ own
IsAnswer (Abandoned l) (Some other) f = f ≡ other
IsAnswer (Abandoned l) None f = f ≡ stuck_at l
IsAnswer (NotForked n) (Some other) f = f ≡ other
IsAnswer (NotForked n) None f = f ≡ NoWorker n

-- the fault is answered where thread 0's worker ended so, and the others by these faults
abbrev pub IsAnswered : Result PassView Halt → List DriveFault → DriveFault → Type 0
IsAnswered (Ok last) faults f = IsFirst faults f
IsAnswered (Err halt) [] f = IsAnswer halt None f
IsAnswered (Err halt) (g ∷ gs) f =
    (other : DriveFault) × IsFirst (g ∷ gs) other × IsAnswer halt (Some other) f

-- ---- the faults of a script

-- the refusal is reported; another thread's hold is not, since such an acquire is tried again
abbrev pub is_told : Refusal → Bool
is_told (refusals.Held by) = false
is_told why = true

-- The line is due after the log, which is a well-formed run of the script: its thread has started, and has
-- made just its lines before.
pub record IsDue (m : Limits) (script : List ScriptLine) (l : ScriptLine) (log : List Event) : Type 0 where
  pub before : List ScriptLine
  pub later : List ScriptLine
  pub place : lines_by (thread_of l) script ≡ before ++ l ∷ later
  pub well_formed : WellFormed m log
  pub run : IsRunOf script log
  pub started : HasStarted (thread_of l) log
  pub made : Follows (own_events (thread_of l) log) before

-- the definition refuses the line's call so, after some log after which the line is due
pub record Refuses (m : Limits) (script : List ScriptLine) (l : ScriptLine) (why : Refusal) : Type 0 where
  pub log : List Event
  pub due : IsDue m script l log
  pub refused : act_refusal m log l.act ≡ Some why

-- the line acquires a lock
abbrev pub act_acquires : Act → Bool
act_acquires (One c) = op_is_acquire c.op
act_acquires (Swap t x site arg) = false

abbrev pub acquires : ScriptLine → Bool
acquires l = act_acquires l.act

-- the operation may have to wait for another thread: it acquires a lock, or joins a thread
abbrev pub op_waits : Op → Bool
op_waits (Acquire l) = true
op_waits (Join u) = true
op_waits _ = false

abbrev pub act_waits : Act → Bool
act_waits (One c) = op_waits c.op
act_waits (Swap t x site arg) = false

-- the line acquires a lock, or joins a thread
abbrev pub waits : ScriptLine → Bool
waits l = act_waits l.act

-- The line has to wait after some log after which it is due: it joins a thread, or acquires a lock that
-- another thread then holds.
pub record HasToWait (m : Limits) (script : List ScriptLine) (l : ScriptLine) : Type 0 where
  pub log : List Event
  pub due : IsDue m script l log
  pub waits : waits l ≡ true
  pub held : acquires l ≡ true → (by : ThreadId) × (act_refusal m log l.act ≡ Some (refusals.Held by))

-- some line of the script is so
abbrev pub SomeLine : List ScriptLine → (ScriptLine → Type 0) → Type 0
SomeLine script P = (l : ScriptLine) × Contains script l × P l

-- each line is let go ahead at its first try, by a gate that is free and so much patience
abbrev pub goes_ahead : Bool → ℕ → Bool
goes_ahead free patience = free && not (patience == 0)

-- a line of the script with this number forks a thread
abbrev pub IsForkLine : List ScriptLine → ℕ → Type 0
IsForkLine script n = ∥ SomeLine script (λ l. (l.line ≡ n) × IsSome (fork_of l)) ∥₁

-- The fault fits a line of the script. Where each line goes ahead at its first try, a stuck one has to wait.
abbrev pub Fits : Limits → Bool → List ScriptLine → DriveFault → Type 0
Fits m ahead script OutOfMemory = Unit {0}
Fits m ahead script (Stuck t n) =
    SomeLine script (λ l. (thread_of l ≡ t) × (l.line ≡ n) × (ahead ≡ true → HasToWait m script l))
Fits m ahead script (Refused t n why) = (is_told why ≡ true)
    × SomeLine script (λ l. (thread_of l ≡ t) × (l.line ≡ n) × Refuses m script l why)
Fits m ahead script (NoWorker n) = IsForkLine script n

-- the fault is one of the script (truncated, so that it is a fact of which a worker's fault can keep a proof)
abbrev pub IsFaultOf : Limits → Bool → List ScriptLine → DriveFault → Type 0
IsFaultOf m ahead script f = ∥ Fits m ahead script f ∥₁

-- the worker's own fault is one of the script; or it ended at a line of the script that has to wait; or
-- before its first line, and a line with this number forks a thread
abbrev pub IsHaltOf : Limits → Bool → List ScriptLine → Halt → Type 0
IsHaltOf m ahead script (Fault f) = IsFaultOf m ahead script f
IsHaltOf m ahead script (Abandoned l) = Contains script l × HasToWait m script l
IsHaltOf m ahead script (NotForked n) = IsForkLine script n

-- the line is the next of the pass's thread: the pass has seen a run of the script, and done the lines before
pub record IsNext (m : Limits) (script : List ScriptLine) (l : ScriptLine) (p : PassView) : Type 0 where
  pub line : Contains script l
  pub before : List ScriptLine
  pub later : List ScriptLine
  pub place : lines_by (thread_of l) script ≡ before ++ l ∷ later
  pub done : HasDone (thread_of l) p before
  pub saw : SawRun m script p
