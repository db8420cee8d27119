-- What the program does for its words, and the status that it ends with.
use Rattle.std.specs.Prelude.{◌≡◌, ◌≢◌, ◌⊎◌, ℕ, List, [], Option, Some, None, Bool, true, false, Result}
use Rattle.std.specs.Prelude.{IsSomeAnd}
use Rattle.std.specs.List.{list_any}
use Rattle.event_core.specs.declared.bounds.Limits.{Limits}
use Rattle.event_core.specs.declared.bounds.Roots.{Roots}
use Rattle.event_core.specs.declared.bounds.Roots.TheVariants.{Free, OnlyMain}
use Rattle.command_line.specs.declared.requests.UsageFault.{UsageFault}
use Rattle.command_line.specs.declared.requests.UsageFault.TheVariants as faults
use Rattle.command_line.specs.Requests.{Kinds, Request, Text, asked, check, faults_of, is_answer}
use Rattle.command_line.specs.Requests.{is_mistake, replay, run, witness}
use Rattle.rapid_text.specs.Turns.{most_turns, IsCutShort}
use Rattle.script_text.specs.Readings.{ReadFails}
use Rattle.trace_report.specs.declared.faults.ReplayFault.{ReplayFault}
use Rattle.trace_report.specs.declared.faults.TraceFault.{TraceFault}
use Rattle.trace_report.specs.declared.summary.Summary.{Summary}
use Rattle.trace_report.specs.declared.counts.Counts.{Counts}
use Rattle.trace_report.specs.Checked.{ChecksText}
use Rattle.trace_report.specs.Judging.{IsTruncatedAt}
use Rattle.trace_report.specs.Replayed.{TellsText, answer_gives_up}
use Rattle.witness_report.specs.declared.shown.Shown.{Shown}
use Rattle.witness_report.specs.Showing.{AnswersText}
use Rattle.wcp_tool.specs.declared.endings.Ending.{Ending}
use Rattle.wcp_tool.specs.declared.endings.Ending.TheVariants.{Done, WrongUsage, WriteFault, OutOfMemory}
use Rattle.wcp_tool.specs.Endings.{check_ending, replay_ending, status_of, witness_ending}
use Rattle.wcp_tool.specs.ScriptRuns.{BreaksText, RunsText, RefusesText}

-- ---- a run of a command

-- the limits of a run: so many threads, and as many locks, variables and events as there may be
abbrev pub limits_with : ℕ → Roots → Limits
limits_with threads roots = record {
  threads = threads;
  locks = 1048576;
  vars = 1048576;
  events = 4294967296;
  roots = roots;
}

-- a text was checked: the answer is the one for it, the one line that prints the answer was written, and so
-- ends the program. Where the text that the reader had left is known, it is that whole text.
pub record Checks (m : Limits) (left old new : Option (List ℕ)) (status : ℕ) : Type 0 where
  pub answer : Result Counts ReplayFault
  pub says : answer_gives_up answer ≡ false
  pub checks : ChecksText m left old new answer
  pub ends : status ≡ status_of (check_ending answer)

-- a text was replayed: what was written is its report or its one fault line, and so ends the program. Where
-- the text that the reader had left is known, it is that whole text.
pub record Replays (m : Limits) (left old new : Option (List ℕ)) (status : ℕ) : Type 0 where
  pub answer : Result Summary ReplayFault
  pub tells : TellsText m left old new answer
  pub ends : status ≡ status_of (replay_ending answer)

-- witnesses were looked for in a text, for the race of this event, or for each pair of locations: what was
-- written is for the text, and so ends the program. Where the text that the reader had left is known, it is
-- that whole text.
pub record Witnesses (m : Limits) (event : Option ℕ) (left old new : Option (List ℕ)) (status : ℕ)
    : Type 0 where
  pub answer : Result Shown ReplayFault
  pub answers : AnswersText m event left old new answer
  pub ends : status ≡ status_of (witness_ending answer)

-- what a run of a script's threads writes: a report, or the one line that says which of its calls is refused
-- and why, or why it came to no report
pub record PerformsRun (m : Limits) (left old new : Option (List ℕ)) (status : ℕ) : Type 0 where
  pub ran : (status ≡ 0) ⊎ (status ≡ 1) → RunsText m left old new status
  pub refused : status ≡ 3 → RefusesText m left old new
  pub broken : status ≡ 6 → BreaksText m left old new

-- the script in a file that was opened was run
pub record PerformsFile {S : Type 0} (opened : Option S → Type 0) (left : S → Option (List ℕ)) (m : Limits)
    (old new : Option (List ℕ)) (status : ℕ) : Type 0 where
  pub script : S
  pub is : opened (Some script)
  pub performs : PerformsRun m (left script) old new status

-- what is done for a request with so many threads, where the reader had this text left, and opening a path
-- may give this
abbrev pub Performs : {S : Type 0} → (Text → Option S → Type 0) → (S → Option (List ℕ)) → Request → ℕ
    → Option (List ℕ) → Option (List ℕ) → Option (List ℕ) → ℕ → Type 0
Performs opens text check threads left old new status = Checks (limits_with threads Free) left old new status
Performs opens text replay threads left old new status =
    Replays (limits_with threads Free) left old new status
Performs opens text (witness event) threads left old new status =
    Witnesses (limits_with threads Free) event left old new status
Performs opens text (run path) threads left old new status =
    PerformsFile (opens path) text (limits_with threads OnlyMain) old new status

-- ---- a text that was not read to its end

-- why: a read failed, or 2^44 pulls were made
abbrev pub IsUnread : Bool → Option ℕ → Option ℕ → List ℕ → Type 0
IsUnread failed before after = IsCutShort most_turns failed before after

-- of a trace: no line that came whole has a fault or an event that is refused
pub record TruncatesTrace (m : Limits) (left rest : Option (List ℕ)) (Why : List ℕ → Type 0) : Type 0 where
  pub fault : TraceFault
  pub is : IsTruncatedAt m left rest Why fault

-- of a script: no line that came whole has a cause
pub record TruncatesScript (m : Limits) (left rest : Option (List ℕ)) (Why : List ℕ → Type 0) : Type 0 where
  pub line : ℕ
  pub fails : ReadFails m left rest Why line

-- of a script in a file that was opened
pub record TruncatesFile {S : Type 0} (opened : Option S → Type 0) (left : S → Option (List ℕ))
    (failed : S → Bool) (pulls : S → Option ℕ) (m : Limits) : Type 0 where
  pub script : S
  pub after : S
  pub is : opened (Some script)
  pub truncates : TruncatesScript m (left script) (left after)
      (IsUnread (failed after) (pulls script) (pulls after))

-- the trace was not read to its end; or the script's file could not be opened, or not be read to its end
abbrev pub IsTruncated : {S : Type 0} → (Text → Option S → Type 0) → (S → Option (List ℕ)) → (S → Bool)
    → (S → Option ℕ) → Request → ℕ → Option (List ℕ) → Option (List ℕ) → (List ℕ → Type 0) → Type 0
IsTruncated opens text fails pulls (run path) threads left rest Why =
    opens path None ⊎ TruncatesFile (opens path) text fails pulls (limits_with threads OnlyMain)
IsTruncated opens text fails pulls request threads left rest Why =
    TruncatesTrace (limits_with threads Free) left rest Why

-- ---- a run of the program

-- no read and no write failed, and memory did not run out
abbrev pub IsUnhindered : ℕ → Type 0
IsUnhindered status = (status ≢ 4) × (status ≢ 5)

-- the writer failed, or what the words ask for was not read to its end
abbrev pub IsHindered : {S : Type 0} → (Text → Option S → Type 0) → (S → Option (List ℕ)) → (S → Bool)
    → (S → Option ℕ) → List Text → Option (List ℕ) → Option (List ℕ) → (List ℕ → Type 0) → Bool → Type 0
IsHindered opens text fails pulls words left rest Why write_failed = (write_failed ≡ true)
    ⊎ IsSomeAnd (asked words) (λ a. IsTruncated opens text fails pulls a.request a.threads left rest Why)

-- a trace is read from standard input for this
abbrev pub reads_trace : Request → Bool
reads_trace (run path) = false
reads_trace request = true

-- standard input is not read for these words: they have a fault, or ask for a run of a script
abbrev pub LeavesInput : List Text → Type 0
LeavesInput words =
    (faults_of words ≢ []) ⊎ IsSomeAnd (asked words) (λ a. reads_trace a.request ≡ false)

-- a witness for the race of one event is asked for
abbrev pub names_event : Request → Bool
names_event (witness (Some event)) = true
names_event request = false

abbrev pub NamesEvent : List Text → Type 0
NamesEvent words = IsSomeAnd (asked words) (λ a. names_event a.request ≡ true)

-- how words with these faults end: with status 0 only where one is help or the version, or with 4 if its text
-- could not be written; with status 2 only where one is a mistake; or memory ran out
abbrev pub Explains : Kinds → ℕ → Type 0
Explains kinds status =
    ((list_any is_answer kinds ≡ true) × ((status ≡ 0) ⊎ (status ≡ 4)))
    ⊎ (((list_any is_mistake kinds ≡ true) × (status ≡ 2)) ⊎ (status ≡ 5))

-- what the program does for these words, where the reader had this text left, the writer this one before and
-- after, and opening a path may give this
pub record Runs {S : Type 0} (opens : Text → Option S → Type 0) (text : S → Option (List ℕ))
    (words : List Text) (left old new : Option (List ℕ)) (status : ℕ) : Type 0 where
  -- words without a fault ask for a command: a trace is judged whole, read or left unread
  pub performs : faults_of words ≡ [] → IsUnhindered status
      → IsSomeAnd (asked words) (λ a. Performs opens text a.request a.threads left old new status)
  -- it is a usage fault only where the words have one, or name an event for a witness
  pub takes : faults_of words ≡ [] → status ≡ 2 → NamesEvent words
  -- words with a fault end the program as one of their faults does
  pub explains : faults_of words ≢ [] → Explains (faults_of words) status

-- how words end that ask for no run
abbrev pub EndsAs : UsageFault → Ending → Type 0
EndsAs (faults.Help text) e = (e ≡ Done) ⊎ (e ≡ WriteFault)
EndsAs (faults.Usage text) e = e ≡ WrongUsage
EndsAs faults.OutOfMemory e = e ≡ OutOfMemory
