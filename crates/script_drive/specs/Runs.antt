-- Which logs the threads of a script can have made.
use Rattle.std.specs.Prelude.{◌≡◌, true, List}
use Rattle.std.specs.List.{list_any}
use mathlib.Core.List.{IsPrefix}
use Rattle.event_core.specs.declared.ids.ThreadId.{ThreadId}
use Rattle.event_core.specs.declared.bounds.Roots.TheVariants.{OnlyMain}
use Rattle.event_core.specs.declared.events.Event.{Event}
use Rattle.event_core.specs.Refusal.{forked, joins}
use Rattle.event_core.specs.Steps.{own_events}
use Rattle.script_text.specs.declared.lines.ScriptLine.{ScriptLine}
use Rattle.script_drive.specs.Lines.{lines_by, Follows}

-- the events are those of the first of these lines, in order
pub record FollowsFirst (events : List Event) (lines : List ScriptLine) : Type 0 where
  pub first : List ScriptLine
  pub begins : IsPrefix first lines
  pub follows : Follows events first

-- Each event of the log is one of a line of the script: each thread's events are those of the first of its
-- lines, and of all of them once it is joined.
pub record IsRunOf (script : List ScriptLine) (log : List Event) : Type 0 where
  pub first : (t : ThreadId) → FollowsFirst (own_events t log) (lines_by t script)
  pub whole : (t : ThreadId) → list_any (joins t) log ≡ true → Follows (own_events t log) (lines_by t script)

-- the thread is thread 0, or the log has its fork
abbrev pub HasStarted : ThreadId → List Event → Type 0
HasStarted t log = forked OnlyMain log t ≡ true
