-- The limits of a monitor, and which numbers they may be.
use Rattle.std.specs.Prelude.{ℕ, Bool, nat_lt, ◌<◌, ◌≤◌, ◌||◌, Result, Ok, Err, if◌then◌else◌}
use Rattle.event_core.specs.declared.bounds.Roots.{Roots}
use Rattle.event_core.specs.declared.bounds.LimitFault.{LimitFault}
use Rattle.event_core.specs.declared.bounds.LimitFault.TheVariants.{Threads, Locks, Vars, Events}

-- what contracts see of limits: how many threads, locks, variables and events there may be, and which
-- threads run from the beginning
pub record Bounds : Type 0 where
  pub threads : ℕ
  pub locks : ℕ
  pub vars : ℕ
  pub events : ℕ
  pub roots : Roots

-- each number is from 1 to its greatest
pub record AreBounded (threads locks vars events : ℕ) : Type 0 where
  pub some_threads : 0 < threads
  pub most_threads : threads ≤ 1024
  pub some_locks : 0 < locks
  pub most_locks : locks ≤ 1048576
  pub some_vars : 0 < vars
  pub most_vars : vars ≤ 1048576
  pub some_events : 0 < events
  pub most_events : events ≤ 4294967296

-- the number is 0 or above the greatest
abbrev pub is_out : ℕ → ℕ → Bool
is_out most n = nat_lt n 1 || nat_lt most n

-- the limits, or the first number that is out of its bounds
abbrev pub limits_of : ℕ → ℕ → ℕ → ℕ → Roots → Result Bounds LimitFault
limits_of threads locks vars events roots =
    if is_out 1024 threads then Err Threads
    else (if is_out 1048576 locks then Err Locks
    else (if is_out 1048576 vars then Err Vars
    else (if is_out 4294967296 events then Err Events
    else Ok (record { threads = threads; locks = locks; vars = vars; events = events; roots = roots }))))
