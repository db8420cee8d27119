-- Which calls are refused after a log, what an accepted one reads, and which logs are well formed.
--
-- The holder of a lock, the threads that have started and those that have ended are found by looking back
-- through the log. That a lock has one holder at a time is the paper's; the rules of threads, of limits and
-- of re-entrance are this project's own.
use Rattle.std.specs.Prelude.{◌≡◌, ℕ, zero, suc, ◌+◌, ◌-◌, Bool, true, false, List, [], ◌∷◌, Option, Some}
use Rattle.std.specs.Prelude.{None, slice_get, nat_eq, nat_lt, nat_le, ◌||◌, not, length, if◌then◌else◌}
use Rattle.std.specs.List.{count_by, list_any}
use Rattle.std.specs.Option.{option_or, option_and_then}
use Rattle.std.proofs.Math.ListN.{take}
use Rattle.event_core.specs.declared.ids.ThreadId.{ThreadId}
use Rattle.event_core.specs.declared.ids.LockId.{LockId}
use Rattle.event_core.specs.declared.ids.VarId.{VarId}
use Rattle.event_core.specs.declared.events.Event.{Event}
use Rattle.event_core.specs.declared.events.Call.{Call}
use Rattle.event_core.specs.declared.bounds.Limits.{Limits}
use Rattle.event_core.specs.declared.bounds.Roots.{Roots}
use Rattle.event_core.specs.declared.bounds.Roots.TheVariants.{OnlyMain, Free}
use Rattle.event_core.specs.declared.replies.Refusal.{Refusal}
use Rattle.event_core.specs.declared.replies.Refusal.TheVariants.{ThreadRange, NotStarted, Ended, TargetRange}
use Rattle.event_core.specs.declared.replies.Refusal.TheVariants.{Held, NotHolder, SelfTarget, AlreadyStarted}
use Rattle.event_core.specs.declared.replies.Refusal.TheVariants.{TargetNotStarted, LogFull}
use Rattle.event_core.specs.declared.events.Op.{Op}
use Rattle.event_core.specs.declared.events.Op.TheVariants.{Load, Store, Acquire, Release, Fork, Join}
use Rattle.event_core.specs.Log.{depth, op_acquires}

-- whether the operation forks the thread
abbrev pub op_forks : ThreadId → Op → Bool
op_forks u (Fork v) = nat_eq v.0 u.0
op_forks u _ = false

-- whether the operation joins the thread
abbrev pub op_joins : ThreadId → Op → Bool
op_joins u (Join v) = nat_eq v.0 u.0
op_joins u _ = false

-- whether the event forks the thread
abbrev pub forks : ThreadId → Event → Bool
forks u e = op_forks u e.op

-- whether the event joins the thread
abbrev pub joins : ThreadId → Event → Bool
joins u e = op_joins u e.op

-- whether the event is of the thread, forks it or joins it
abbrev pub mentions : ThreadId → Event → Bool
mentions u e = nat_eq e.thread.0 u.0 || (op_forks u e.op || op_joins u e.op)

-- the thread of the lock's last acquire
unfoldable pub last_acquirer : List Event → LockId → Option ThreadId
last_acquirer [] l = None
last_acquirer (e ∷ es) l = option_or (last_acquirer es l) (if op_acquires l e.op then Some e.thread else None)

-- the thread that holds the lock: that of its last acquire, if it has acquired it more often than released it
unfoldable pub holder : List Event → LockId → Option ThreadId
holder log l = option_and_then (λ u. if nat_lt 0 (depth log u l) then Some u else None) (last_acquirer log l)

-- whether the operation is an acquire
abbrev pub op_is_acquire : Op → Bool
op_is_acquire (Acquire l) = true
op_is_acquire _ = false

-- whether the operation is a release
abbrev pub op_is_release : Op → Bool
op_is_release (Release l) = true
op_is_release _ = false

-- how many more acquires than releases the log has
unfoldable pub open_acquires : List Event → ℕ
open_acquires log =
    count_by (λ (e : Event). op_is_acquire e.op) log - count_by (λ (e : Event). op_is_release e.op) log

-- the depth of a lock to this holder, or 0 where there is none
abbrev pub depth_by : Option ThreadId → List Event → LockId → ℕ
depth_by None log l = 0
depth_by (Some u) log l = depth log u l

-- the depth of a lock: that of its holder, and 0 where nobody holds it
unfoldable pub lock_depth : List Event → LockId → ℕ
lock_depth log l = depth_by (holder log l) log l

-- the lock of this number
abbrev pub lock_at : ℕ → LockId
lock_at n = record { 0 = n }

-- the sum of f over the locks below n
abbrev pub sum_locks : (LockId → ℕ) → ℕ → ℕ
sum_locks f zero = 0
sum_locks f (suc n) = sum_locks f n + f (lock_at n)

-- the sum of the depths of all held locks
unfoldable pub held_depths : Limits → List Event → ℕ
held_depths m log = sum_locks (lock_depth log) m.locks

-- the refusal, where the test holds
abbrev pub when : Bool → Refusal → Option Refusal
when b r = if b then Some r else None

-- whether the thread has started: thread 0 or a forked one; or any thread, where the roots are free
abbrev pub forked : Roots → List Event → ThreadId → Bool
forked OnlyMain log u = nat_eq u.0 0 || list_any (forks u) log
forked Free log u = true

-- whether the thread may no longer be forked: it is thread 0 or was forked; or, where the roots are free, the
-- log has it
abbrev pub known : Roots → List Event → ThreadId → Bool
known OnlyMain log u = nat_eq u.0 0 || list_any (forks u) log
known Free log u = list_any (mentions u) log

-- whether the lock, variable or thread that is named is below its limit
abbrev pub in_range : Limits → Op → Bool
in_range m (Load x) = nat_lt x.0 m.vars
in_range m (Store x) = nat_lt x.0 m.vars
in_range m (Acquire l) = nat_lt l.0 m.locks
in_range m (Release l) = nat_lt l.0 m.locks
in_range m (Fork u) = nat_lt u.0 m.threads
in_range m (Join u) = nat_lt u.0 m.threads

-- an acquire is refused where another thread holds the lock
abbrev pub held_by : Option ThreadId → ThreadId → Option Refusal
held_by None u = None
held_by (Some v) u = when (not (nat_eq v.0 u.0)) (Held v)

-- whether the holder is this thread
abbrev pub is_holder : Option ThreadId → ThreadId → Bool
is_holder None u = false
is_holder (Some v) u = nat_eq v.0 u.0

-- why an acquire is refused by the lock's holder, if it is
abbrev pub held : List Event → ThreadId → Op → Option Refusal
held log u (Acquire l) = held_by (holder log l) u
held log u _ = None

-- a release is refused where the caller is not the holder
abbrev pub not_holder : List Event → ThreadId → Op → Option Refusal
not_holder log u (Release l) = when (not (is_holder (holder log l) u)) NotHolder
not_holder log u _ = None

-- no thread forks or joins itself
abbrev pub self_target : ThreadId → Op → Option Refusal
self_target u (Fork v) = when (nat_eq v.0 u.0) SelfTarget
self_target u (Join v) = when (nat_eq v.0 u.0) SelfTarget
self_target u _ = None

-- a fork is refused of a thread that may no longer be forked
abbrev pub already_started : Limits → List Event → Op → Option Refusal
already_started m log (Fork v) = when (known m.roots log v) AlreadyStarted
already_started m log _ = None

-- a join is refused of a thread that has not started
abbrev pub target_not_started : Limits → List Event → Op → Option Refusal
target_not_started m log (Join v) = when (not (forked m.roots log v)) TargetNotStarted
target_not_started m log _ = None

-- the slots that the call needs: its own, the h that are kept, and one more for an acquire's release
abbrev pub full_with : ℕ → Limits → List Event → Op → Option Refusal
full_with h m log (Release l) = None
full_with h m log (Acquire l) = when (not (nat_le (length log + h + 2) m.events)) LogFull
full_with h m log _ = when (not (nat_le (length log + h + 1) m.events)) LogFull

-- a slot is kept for the release of each hold
abbrev pub log_full : Limits → List Event → Op → Option Refusal
log_full m log = full_with (held_depths m log) m log

-- the first refusal of a list
abbrev pub first_of : List (Option Refusal) → Option Refusal
first_of [] = None
first_of (o ∷ os) = option_or o (first_of os)

-- the reasons to refuse a call, in their order: each applies or not
abbrev pub reasons : Limits → List Event → Call → List (Option Refusal)
reasons m log c =
    when (nat_le m.threads c.thread.0) ThreadRange
    ∷ when (not (forked m.roots log c.thread)) NotStarted
    ∷ when (list_any (joins c.thread) log) Ended
    ∷ when (not (in_range m c.op)) TargetRange
    ∷ held log c.thread c.op
    ∷ not_holder log c.thread c.op
    ∷ self_target c.thread c.op
    ∷ already_started m log c.op
    ∷ target_not_started m log c.op
    ∷ log_full m log c.op
    ∷ []

-- why a call is refused after the log, if it is: the first reason that applies
unfoldable pub refusal : Limits → List Event → Call → Option Refusal
refusal m log c = first_of (reasons m log c)

-- whether the operation stores to the variable
abbrev pub op_stores : VarId → Op → Bool
op_stores x (Store y) = nat_eq y.0 x.0
op_stores x _ = false

-- the value of the last store to the variable, or n
abbrev pub last_value_from : ℕ → List Event → VarId → ℕ
last_value_from n [] x = n
last_value_from n (e ∷ es) x = last_value_from (if op_stores x e.op then e.value else n) es x

-- the value of the last store to the variable, or 0
unfoldable pub last_value : List Event → VarId → ℕ
last_value log x = last_value_from 0 log x

-- the value of a call's event: what a load reads, what a store was given, and 0 otherwise
abbrev pub value_of : List Event → Op → ℕ → ℕ
value_of log (Load x) arg = last_value log x
value_of log (Store x) arg = arg
value_of log _ arg = 0

-- the event of an accepted call
abbrev pub event_of : List Event → Call → Event
event_of log c = record { thread = c.thread; op = c.op; site = c.site; value = value_of log c.op c.arg }

-- the event is that of a call that is not refused after the log
pub record Legal (m : Limits) (log : List Event) (e : Event) : Type 0 where
  pub call : Call
  pub allowed : refusal m log call ≡ None
  pub is : e ≡ event_of log call

-- each event is legal after those before it
pub record WellFormed (m : Limits) (log : List Event) : Type 0 where
  pub legal : (i : ℕ) (e : Event) → slice_get log i ≡ Some e → Legal m (take i log) e
