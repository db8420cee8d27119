-- What is known of a thread that runs its lines.
use Rattle.std.specs.Prelude.{◌≡◌, ◌||◌, Bool, List, [], ◌++◌, map, is_some}
use Rattle.std.specs.List.{filter_map}
use mathlib.Core.List.{IsPrefix}
use Rattle.event_core.specs.declared.bounds.Limits.{Limits}
use Rattle.event_core.specs.declared.ids.ThreadId.{ThreadId}
use Rattle.event_core.specs.Steps.{log_of}
use Rattle.log_pass.specs.declared.views.PassView.{PassView}
use Rattle.log_pass.specs.Passes.{IsPass}
use Rattle.script_text.specs.declared.lines.ScriptLine.{ScriptLine}
use Rattle.script_text.specs.Lines.{fork_of, join_of}
use Rattle.script_drive.specs.Lines.{unread, asked_by, lines_by, Follows}
use Rattle.script_drive.specs.Runs.{HasStarted, IsRunOf}

-- the first pass of a thread: it has seen a run of the script that has started the thread, and made no step
pub record IsFirst (script : List ScriptLine) (t : ThreadId) (p : PassView) : Type 0 where
  pub thread : p.thread ≡ t
  pub no_step : p.mine ≡ []
  pub started : HasStarted t (log_of p.seen)
  pub run : IsRunOf script (log_of p.seen)

-- what the pass has seen is a run of the script
pub record SawRun (m : Limits) (script : List ScriptLine) (p : PassView) : Type 0 where
  pub is_pass : IsPass m p
  pub run : IsRunOf script (log_of p.seen)

-- the pass of a thread that has done just these lines
pub record HasDone (t : ThreadId) (p : PassView) (lines : List ScriptLine) : Type 0 where
  pub thread : p.thread ≡ t
  pub started : HasStarted t (log_of p.seen)
  pub follows : Follows (log_of p.mine) lines

-- the last pass of a thread, which has done all its lines of the script
abbrev pub Done : List ScriptLine → ThreadId → PassView → Type 0
Done script t p = HasDone t p (lines_by t script)

-- the pass p did one more line, and is q
pub record Does (line : ScriptLine) (p q : PassView) : Type 0 where
  pub thread : q.thread ≡ p.thread
  pub begins : IsPrefix p.seen q.seen
  pub mine : map unread (log_of q.mine) ≡ map unread (log_of p.mine) ++ asked_by line.act

-- the threads that these lines fork, and those that they join, in order
abbrev pub forked : List ScriptLine → List ThreadId
forked = filter_map fork_of

abbrev pub joined : List ScriptLine → List ThreadId
joined = filter_map join_of

-- the line forks or joins a thread
abbrev pub is_link : ScriptLine → Bool
is_link l = is_some (fork_of l) || is_some (join_of l)

-- whom a worker's ends reach: who is to be forked, and who is to be joined
pub record Reach : Type 0 where
  pub forks : List ThreadId
  pub joins : List ThreadId

-- it reaches just those whom these lines fork and join
pub record Serves (reach : Reach) (lines : List ScriptLine) : Type 0 where
  pub forks : reach.forks ≡ forked lines
  pub joins : reach.joins ≡ joined lines

-- a thread, and whom its ends reach
pub record OwnReach : Type 0 where
  pub thread : ThreadId
  pub reach : Reach
