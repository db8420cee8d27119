-- What a log means for a memory.
use Rattle.std.specs.Prelude.{◌≡◌, ℕ, List, [], ◌∷◌, ◌++◌, nat_eq, ◌&&◌, length, if◌then◌else◌}
use Rattle.std.specs.List.{list_any}
use Rattle.event_core.specs.declared.ids.ThreadId.{ThreadId}
use Rattle.event_core.specs.declared.ids.LockId.{LockId}
use Rattle.event_core.specs.declared.ids.VarId.{VarId}
use Rattle.event_core.specs.declared.events.Event.{Event}
use Rattle.event_core.specs.declared.events.Op.{Op}
use Rattle.event_core.specs.declared.events.Op.TheVariants.{Acquire, Release}
use Rattle.event_core.specs.Log.{depth}
use Rattle.event_core.specs.Refusal.{forks, joins, mentions, holder, lock_depth, open_acquires, last_value}
use Rattle.event_core.specs.Refusal.{lock_at, WellFormed}
use Rattle.traced_mem.specs.Meaning.{Meaning}
use Rattle.traced_mem.specs.After.{without}
use Rattle.traced_mem.specs.Tables.{MemoryTables, meaning}

abbrev pub thread_id : ℕ → ThreadId
thread_id n = record { 0 = n }

abbrev pub var_id : ℕ → VarId
var_id n = record { 0 = n }

-- the locks that u holds, in the order of their outer acquires: an outer acquire adds one at the end,
-- and an outer release takes it away
abbrev pub held_after : List Event → ThreadId → Event → Op → List LockId → List LockId
held_after before u e (Acquire l) held =
    if nat_eq e.thread.0 u.0 && nat_eq (depth before u l) 0 then held ++ l ∷ [] else held
held_after before u e (Release l) held =
    if nat_eq e.thread.0 u.0 && nat_eq (depth (before ++ e ∷ []) u l) 0 then without l held else held
held_after before u e _ held = held

abbrev pub held_from : List Event → List Event → ThreadId → List LockId → List LockId
held_from before [] u held = held
held_from before (e ∷ es) u held = held_from (before ++ e ∷ []) es u (held_after before u e e.op held)

unfoldable pub held_in : List Event → ThreadId → List LockId
held_in log u = held_from [] log u []

-- what a memory means after the log
abbrev pub meaning_of : List Event → Meaning
meaning_of log = record {
  length = length log;
  holds = open_acquires log;
  thread = λ u. record {
    forked = list_any (forks (thread_id u)) log;
    joined = list_any (joins (thread_id u)) log;
    mentioned = list_any (mentions (thread_id u)) log;
    held = held_in log (thread_id u);
  };
  lock = λ l. record { holder = holder log (lock_at l); depth = lock_depth log (lock_at l) };
  cell = λ x. last_value log (var_id x);
}

-- the memory is as after the log, which is well formed under its limits
pub record StandsFor (log : List Event) (t : MemoryTables) : Type 0 where
  pub well_formed : WellFormed t.limits log
  pub means : meaning t ≡ meaning_of log
