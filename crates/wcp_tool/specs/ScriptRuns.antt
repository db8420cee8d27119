-- What a run of a script writes, and the status that it ends with.
use Rattle.std.specs.Prelude.{◌≡◌, ◌⊎◌, ℕ, List, Option, Ok, true, IfSome, IsSome, codes}
use Rattle.std.specs.Io.KnownBytes.{Appends}
use Rattle.std.specs.List.{Contains}
use Rattle.event_core.specs.declared.bounds.Limits.{Limits}
use Rattle.event_core.specs.declared.events.Event.{Event}
use Rattle.event_core.specs.declared.ids.ThreadId.{ThreadId}
use Rattle.event_core.specs.declared.replies.Refusal.{Refusal}
use Rattle.event_core.specs.Refusal.{WellFormed}
use Rattle.event_core.specs.Steps.{own_events}
use Rattle.closed_report.specs.Closed.{IsReportOf}
use Rattle.rapid_text.specs.Faults.{fault_line}
use Rattle.rapid_text.specs.Tables.{Tables}
use Rattle.script_drive.specs.Faults.{HasToWait, Refuses, is_told}
use Rattle.script_drive.specs.Lines.{AllMadeFrom, Follows, IsJoinedFrom, IsUnjoined, lines_by}
use Rattle.script_drive.specs.Runs.{IsRunOf}
use Rattle.script_drive.specs.declared.faults.DriveFault.{DriveFault}
use Rattle.script_drive.specs.declared.faults.DriveFault.TheVariants.{NoWorker, Refused, Stuck}
use Rattle.script_text.specs.declared.causes.ScriptCause.{ScriptCause}
use Rattle.script_text.specs.declared.causes.ScriptCause.TheVariants as causes
use Rattle.script_text.specs.declared.causes.ScriptFault.{ScriptFault}
use Rattle.script_text.specs.declared.lines.ScriptLine.{ScriptLine}
use Rattle.script_text.specs.Faults.{cause_word}
use Rattle.script_text.specs.Lines.{fork_of}
use Rattle.script_text.specs.Readings.{HasFault, LacksFork}
use Rattle.script_text.specs.Scripts.{IsScript, Parsed, script_of}
use Rattle.trace_report.specs.declared.summary.Summary.{Summary}
use Rattle.trace_report.specs.Words.{refusal_word}
use Rattle.wcp_tool.specs.Endings.{status_of, summary_ending}

-- the text that the reader had left is a script, and this holds of it
pub record OfScript (m : Limits) (left : Option (List ℕ)) (Holds : Parsed → Type 0) : Type 0 where
  pub script : Parsed
  pub is_of : IfSome left (λ text. script_of m text ≡ Ok script)
  pub is : IsScript script
  pub holds : Holds script

-- ---- a run with status 0 or 1

-- the report of this log was written, with the definition's verdict on each event, and so ends the program
pub record ReportsLog (names : Tables) (log : List Event) (old new : Option (List ℕ)) (status : ℕ)
    : Type 0 where
  pub summary : Summary
  pub report : IsReportOf names log old new summary
  pub ends : status ≡ status_of (summary_ending summary)

-- the thread of a script's first line
abbrev pub first_thread : ThreadId
first_thread = record { 0 = 0 }

-- the threads of the script were run, and this is the well-formed log of what they did: each thread's events
-- are those of the first of its lines in order, and those of the first thread, of each thread that no line
-- joins, and of each thread that is joined from one of these, of all of them
pub record IsRun (m : Limits) (script : Parsed) (log : List Event) : Type 0 where
  pub well_formed : WellFormed m log
  pub run : IsRunOf script.lines log
  pub first : Follows (own_events first_thread log) (lines_by first_thread script.lines)
  pub joined : (u : ThreadId) → IsJoinedFrom script.lines first_thread u
      → Follows (own_events u log) (lines_by u script.lines)
  pub unjoined : (t : ThreadId) → IsUnjoined script.lines t → AllMadeFrom script.lines log t

-- the threads of the script were run, and the log of what they did was reported
pub record Ran (m : Limits) (script : Parsed) (old new : Option (List ℕ)) (status : ℕ) : Type 0 where
  pub log : List Event
  pub is : IsRun m script log
  pub reports : ReportsLog script.names log old new status

-- the text that the reader had left is a script, and its threads were run
abbrev pub RunsText : Limits → Option (List ℕ) → Option (List ℕ) → Option (List ℕ) → ℕ → Type 0
RunsText m left old new status = OfScript m left (λ script. Ran m script old new status)

-- ---- a run with status 3

-- one line was written, which names a line of the script whose call the definition refuses, and why. Another
-- thread's hold of a lock is no reason, since such an acquire is tried again.
pub record NamesRefusal (m : Limits) (lines : List ScriptLine) (old new : Option (List ℕ)) : Type 0 where
  pub line : ScriptLine
  pub one : Contains lines line
  pub refusal : Refusal
  pub told : is_told refusal ≡ true
  pub refused : Refuses m lines line refusal
  pub written : Appends old new (fault_line line.line (refusal_word refusal))

-- the same, as a fact without its witness
abbrev pub TellsRefusal : Limits → List ScriptLine → Option (List ℕ) → Option (List ℕ) → Type 0
TellsRefusal m lines old new = ∥ NamesRefusal m lines old new ∥₁

-- the text that the reader had left is a script, and one line says which of its calls is refused and why
abbrev pub RefusesText : Limits → Option (List ℕ) → Option (List ℕ) → Option (List ℕ) → Type 0
RefusesText m left old new = OfScript m left (λ script. TellsRefusal m script.lines old new)

-- the fault is a refusal, and one line was written, with its line and its word
abbrev pub TellsRefused : DriveFault → Option (List ℕ) → Option (List ℕ) → Type 0
TellsRefused (Refused t n why) old new = Appends old new (fault_line n (refusal_word why))
TellsRefused _ old new = ⊥

-- ---- a run with status 6

-- the one line that names this fault of a script was written, and the status is 6; unless it could not be
-- written, the script not be read to its end, or memory ran out
abbrev pub TellsFault : ScriptFault → Option (List ℕ) → Option (List ℕ) → ℕ → Type 0
TellsFault f old new status =
    ((status ≡ 6) × Appends old new (fault_line f.line (cause_word f.cause)))
    ⊎ ((status ≡ 4) ⊎ (status ≡ 5))

-- the fault is one of the text that the reader had left: the first of its lines, or a thread to which no
-- forks lead
abbrev pub IsOfText : Limits → Option (List ℕ) → ScriptFault → ScriptCause → Type 0
IsOfText m left f causes.Read = ⊥
IsOfText m left f causes.OutOfMemory = ⊥
IsOfText m left f causes.NoFork = LacksFork m left f.line
IsOfText m left f cause = HasFault m left f

-- the text that the reader had left is no script, and one line names its fault
pub record FaultsText (m : Limits) (left old new : Option (List ℕ)) : Type 0 where
  pub fault : ScriptFault
  pub is_of : IsOfText m left fault fault.cause
  pub written : Appends old new (fault_line fault.line (cause_word fault.cause))

-- the fault is that a line is stuck, or that no worker could be started, and one line was written, with
-- its line and its word
abbrev pub TellsStopped : DriveFault → Option (List ℕ) → Option (List ℕ) → Type 0
TellsStopped (Stuck t n) old new = Appends old new (fault_line n (codes "Stuck"))
TellsStopped (NoWorker n) old new = Appends old new (fault_line n (codes "NoWorker"))
TellsStopped _ old new = ⊥

-- one line was written, which names a line of the script: one that is stuck, and has to wait after some log
-- after which it is due, or one that forks a thread for which no worker could be started
pub record NamesStop (m : Limits) (lines : List ScriptLine) (old new : Option (List ℕ)) : Type 0 where
  pub line : ScriptLine
  pub one : Contains lines line
  pub written : (HasToWait m lines line × Appends old new (fault_line line.line (codes "Stuck")))
      ⊎ (IsSome (fork_of line) × Appends old new (fault_line line.line (codes "NoWorker")))

-- the same, as a fact without its witness
abbrev pub TellsStop : Limits → List ScriptLine → Option (List ℕ) → Option (List ℕ) → Type 0
TellsStop m lines old new = ∥ NamesStop m lines old new ∥₁

-- why a run ends with status 6
abbrev pub BreaksText : Limits → Option (List ℕ) → Option (List ℕ) → Option (List ℕ) → Type 0
BreaksText m left old new =
    FaultsText m left old new ⊎ OfScript m left (λ script. TellsStop m script.lines old new)
