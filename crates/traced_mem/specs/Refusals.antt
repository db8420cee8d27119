-- The refusals of calls and swaps, read from a memory's meaning in place of the log.
use Rattle.std.specs.Prelude.{ℕ, ◌+◌, Bool, true, List, [], ◌∷◌, Option, Some, None, Result, Ok, Err, nat_eq}
use Rattle.std.specs.Prelude.{nat_le, ◌||◌, not}
use Rattle.std.specs.Option.{option_or}
use Rattle.event_core.specs.declared.ids.ThreadId.{ThreadId}
use Rattle.event_core.specs.declared.ids.VarId.{VarId}
use Rattle.event_core.specs.declared.bounds.Limits.{Limits}
use Rattle.event_core.specs.declared.bounds.Roots.{Roots}
use Rattle.event_core.specs.declared.bounds.Roots.TheVariants.{OnlyMain, Free}
use Rattle.event_core.specs.declared.replies.Refusal.{Refusal}
use Rattle.event_core.specs.declared.replies.Refusal.TheVariants.{ThreadRange, NotStarted, Ended, TargetRange}
use Rattle.event_core.specs.declared.replies.Refusal.TheVariants.{NotHolder, AlreadyStarted, TargetNotStarted}
use Rattle.event_core.specs.declared.replies.Refusal.TheVariants.{LogFull}
use Rattle.event_core.specs.declared.events.Op.{Op}
use Rattle.event_core.specs.declared.events.Op.TheVariants.{Load, Acquire, Release, Fork, Join}
use Rattle.event_core.specs.Refusal.{when, in_range, held_by, is_holder, self_target, first_of}
use Rattle.traced_mem.specs.Meaning.{Meaning}

-- the thread may act
abbrev pub forked_at : Roots → Meaning → ThreadId → Bool
forked_at OnlyMain m u = nat_eq u.0 0 || (m.thread u.0).forked
forked_at Free m u = true

-- a fork may not be of the thread
abbrev pub known_at : Roots → Meaning → ThreadId → Bool
known_at OnlyMain m u = nat_eq u.0 0 || (m.thread u.0).forked
known_at Free m u = (m.thread u.0).mentioned

abbrev pub held_at : Meaning → ThreadId → Op → Option Refusal
held_at m u (Acquire l) = held_by (m.lock l.0).holder u
held_at m u _ = None

abbrev pub not_holder_at : Meaning → ThreadId → Op → Option Refusal
not_holder_at m u (Release l) = when (not (is_holder (m.lock l.0).holder u)) NotHolder
not_holder_at m u _ = None

abbrev pub already_started_at : Limits → Meaning → Op → Option Refusal
already_started_at k m (Fork v) = when (known_at k.roots m v) AlreadyStarted
already_started_at k m _ = None

abbrev pub target_not_started_at : Limits → Meaning → Op → Option Refusal
target_not_started_at k m (Join v) = when (not (forked_at k.roots m v)) TargetNotStarted
target_not_started_at k m _ = None

-- the log has no n slots beside those that are kept for releases
abbrev pub full_at : Limits → Meaning → ℕ → Option Refusal
full_at k m n = when (not (nat_le (m.length + m.holds + n) k.events)) LogFull

abbrev pub log_full_at : Limits → Meaning → Op → Option Refusal
log_full_at k m (Release l) = None
log_full_at k m (Acquire l) = full_at k m 2
log_full_at k m _ = full_at k m 1

-- the reasons to refuse a thread whatever it asks for, in their order
abbrev pub caller_refusal : Limits → Meaning → ThreadId → Option Refusal
caller_refusal k m u =
    option_or (when (nat_le k.threads u.0) ThreadRange)
    (option_or (when (not (forked_at k.roots m u)) NotStarted) (when (m.thread u.0).joined Ended))

-- the reasons that lie in the lock or the thread that is named, in their order
abbrev pub target_refusal : Limits → Meaning → ThreadId → Op → Option Refusal
target_refusal k m u o =
    option_or (held_at m u o)
    (option_or (not_holder_at m u o)
    (option_or (self_target u o) (option_or (already_started_at k m o) (target_not_started_at k m o))))

-- the reasons to refuse the thread the operation, in their order: each applies or not
abbrev pub reasons_at : Limits → Meaning → ThreadId → Op → List (Option Refusal)
reasons_at k m u o =
    when (nat_le k.threads u.0) ThreadRange
    ∷ when (not (forked_at k.roots m u)) NotStarted
    ∷ when (m.thread u.0).joined Ended
    ∷ when (not (in_range k o)) TargetRange
    ∷ held_at m u o
    ∷ not_holder_at m u o
    ∷ self_target u o
    ∷ already_started_at k m o
    ∷ target_not_started_at k m o
    ∷ log_full_at k m o
    ∷ []

-- why the thread is refused the operation, if it is
unfoldable pub refusal_at : Limits → Meaning → ThreadId → Op → Option Refusal
refusal_at k m u o = first_of (reasons_at k m u o)

-- why the thread is refused a swap of the variable, if it is: as its load, but it needs two slots
abbrev pub swap_reasons_at : Limits → Meaning → ThreadId → VarId → List (Option Refusal)
swap_reasons_at k m u x =
    when (nat_le k.threads u.0) ThreadRange
    ∷ when (not (forked_at k.roots m u)) NotStarted
    ∷ when (m.thread u.0).joined Ended
    ∷ when (not (in_range k (Load x))) TargetRange
    ∷ full_at k m 2
    ∷ []

unfoldable pub swap_refusal_at : Limits → Meaning → ThreadId → VarId → Option Refusal
swap_refusal_at k m u x = first_of (swap_reasons_at k m u x)

-- no refusal is Ok
abbrev pub answer : Option Refusal → Result (Unit {0}) Refusal
answer None = Ok tt
answer (Some r) = Err r
