-- The lines of a script, and which threads they fork and join.
use Rattle.std.specs.Prelude.{ℕ, ◌==◌, Bool, false, Option, Some, None}
use Rattle.event_core.specs.declared.ids.ThreadId.{ThreadId}
use Rattle.event_core.specs.declared.events.Op.{Op}
use Rattle.event_core.specs.declared.events.Op.TheVariants.{Fork, Join}
use Rattle.event_core.specs.declared.events.Act.{Act}
use Rattle.event_core.specs.declared.events.Act.TheVariants.{One, Swap}
use Rattle.script_text.specs.declared.lines.ScriptLine.{ScriptLine}

abbrev pub act_thread : Act → ThreadId
act_thread (One c) = c.thread
act_thread (Swap u x site arg) = u

-- the thread whose line it is
abbrev pub thread_of : ScriptLine → ThreadId
thread_of l = act_thread l.act

abbrev pub op_fork : Op → Option ThreadId
op_fork (Fork u) = Some u
op_fork op = None

abbrev pub op_join : Op → Option ThreadId
op_join (Join u) = Some u
op_join op = None

abbrev pub act_fork : Act → Option ThreadId
act_fork (One c) = op_fork c.op
act_fork (Swap u x site arg) = None

abbrev pub act_join : Act → Option ThreadId
act_join (One c) = op_join c.op
act_join (Swap u x site arg) = None

-- the thread that the line forks, and the one that it joins
abbrev pub fork_of : ScriptLine → Option ThreadId
fork_of l = act_fork l.act

abbrev pub join_of : ScriptLine → Option ThreadId
join_of l = act_join l.act

abbrev pub is_thread : ℕ → Option ThreadId → Bool
is_thread u None = false
is_thread u (Some t) = t.0 == u

-- the line is one of thread u; it forks u; it joins u
abbrev pub is_of : ℕ → ScriptLine → Bool
is_of u l = (thread_of l).0 == u

abbrev pub forks : ℕ → ScriptLine → Bool
forks u l = is_thread u (fork_of l)

abbrev pub joins : ℕ → ScriptLine → Bool
joins u l = is_thread u (join_of l)
