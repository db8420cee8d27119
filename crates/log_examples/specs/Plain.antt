-- The rule without re-entrance: which calls are refused and which logs are well formed where no lock may be
-- acquired again by its holder.
--
-- It is stated apart from the rule with re-entrance, which the monitor follows, and serves one law alone: a
-- log that is well formed by this rule is so by the other, and means the same. What does not speak of locks
-- is shared.
use Rattle.std.specs.Prelude.{◌≡◌, List, [], ◌∷◌, Option, Some, None, slice_get, nat_le, not, if◌then◌else◌}
use Rattle.std.specs.Prelude.{ℕ}
use Rattle.std.specs.List.{list_any}
use Rattle.std.proofs.Math.ListN.{take}
use Rattle.event_core.specs.declared.ids.ThreadId.{ThreadId}
use Rattle.event_core.specs.declared.ids.LockId.{LockId}
use Rattle.event_core.specs.declared.events.Event.{Event}
use Rattle.event_core.specs.declared.events.Call.{Call}
use Rattle.event_core.specs.declared.bounds.Limits.{Limits}
use Rattle.event_core.specs.declared.replies.Refusal.{Refusal}
use Rattle.event_core.specs.declared.replies.Refusal.TheVariants.{ThreadRange, NotStarted, Ended, TargetRange}
use Rattle.event_core.specs.declared.replies.Refusal.TheVariants.{Held, NotHolder}
use Rattle.event_core.specs.declared.events.Op.{Op}
use Rattle.event_core.specs.declared.events.Op.TheVariants.{Acquire, Release}
use Rattle.event_core.specs.Log.{op_acquires, op_releases}
use Rattle.event_core.specs.Refusal.{first_of, when, forked, joins, in_range, is_holder, self_target}
use Rattle.event_core.specs.Refusal.{already_started, target_not_started, full_with, sum_locks, event_of}

-- the holder of the lock after one more event
abbrev pub holder_after : Option ThreadId → Event → LockId → Option ThreadId
holder_after h e l = if op_acquires l e.op then Some e.thread else if op_releases l e.op then None else h

-- the thread of the lock's last acquire, if no release of the lock stands after it
abbrev pub plain_holder_from : Option ThreadId → List Event → LockId → Option ThreadId
plain_holder_from h [] l = h
plain_holder_from h (e ∷ es) l = plain_holder_from (holder_after h e l) es l

-- the holder of the lock after the log
unfoldable pub plain_holder : List Event → LockId → Option ThreadId
plain_holder log l = plain_holder_from None log l

-- an acquire is refused where the lock has any holder, the caller included
abbrev pub held_by_any : Option ThreadId → Option Refusal
held_by_any None = None
held_by_any (Some v) = Some (Held v)

abbrev pub plain_held : List Event → Op → Option Refusal
plain_held log (Acquire l) = held_by_any (plain_holder log l)
plain_held log _ = None

-- a release is refused where the caller is not the holder
abbrev pub plain_not_holder : List Event → ThreadId → Op → Option Refusal
plain_not_holder log u (Release l) = when (not (is_holder (plain_holder log l) u)) NotHolder
plain_not_holder log u _ = None

-- whether the lock has a holder, as a number
abbrev pub held_one : Option ThreadId → ℕ
held_one None = 0
held_one (Some v) = 1

-- how many locks are held after the log
unfoldable pub plain_held_locks : Limits → List Event → ℕ
plain_held_locks m log = sum_locks (λ l. held_one (plain_holder log l)) m.locks

-- a slot is kept for each lock that is held
abbrev pub plain_log_full : Limits → List Event → Op → Option Refusal
plain_log_full m log = full_with (plain_held_locks m log) m log

-- the reasons to refuse a call, in their order: each applies or not
abbrev pub plain_reasons : Limits → List Event → Call → List (Option Refusal)
plain_reasons m log c =
    when (nat_le m.threads c.thread.0) ThreadRange
    ∷ when (not (forked m.roots log c.thread)) NotStarted
    ∷ when (list_any (joins c.thread) log) Ended
    ∷ when (not (in_range m c.op)) TargetRange
    ∷ plain_held log c.op
    ∷ plain_not_holder log c.thread c.op
    ∷ self_target c.thread c.op
    ∷ already_started m log c.op
    ∷ target_not_started m log c.op
    ∷ plain_log_full m log c.op
    ∷ []

-- why a call is refused after the log, if it is: the first reason that applies
unfoldable pub plain_refusal : Limits → List Event → Call → Option Refusal
plain_refusal m log c = first_of (plain_reasons m log c)

-- the event is that of a call that is not refused after the log
pub record PlainLegal (m : Limits) (log : List Event) (e : Event) : Type 0 where
  pub call : Call
  pub allowed : plain_refusal m log call ≡ None
  pub is : e ≡ event_of log call

-- each event is legal after those before it
pub record PlainWellFormed (m : Limits) (log : List Event) : Type 0 where
  pub legal : (i : ℕ) (e : Event) → slice_get log i ≡ Some e → PlainLegal m (take i log) e
