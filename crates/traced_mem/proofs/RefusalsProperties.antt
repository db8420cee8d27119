-- The definitions over a log's meaning are those over the log.
use Rattle.std.proofs.Common.{◌≡◌, ℕ, ◌+◌, List, [], ◌∷◌, length, not, nat_le, ap, sym, refl, ◌∙◌}
use Rattle.std.specs.List.{list_any}
use Rattle.event_core.specs.declared.ids.ThreadId.{ThreadId}
use Rattle.event_core.specs.declared.ids.VarId.{VarId}
use Rattle.event_core.specs.declared.events.Event.{Event}
use Rattle.event_core.specs.declared.events.Call.{Call}
use Rattle.event_core.specs.declared.bounds.Limits.{Limits}
use Rattle.event_core.specs.declared.events.Op.{Op}
use Rattle.event_core.specs.declared.events.Op.TheVariants.{Load, Acquire, Release, Fork, Join}
use Rattle.event_core.specs.declared.bounds.Roots.{Roots}
use Rattle.event_core.specs.declared.bounds.Roots.TheVariants.{OnlyMain, Free}
use Rattle.event_core.specs.declared.replies.Refusal.TheVariants.{ThreadRange, NotStarted, Ended, TargetRange}
use Rattle.event_core.specs.declared.replies.Refusal.TheVariants.{AlreadyStarted, TargetNotStarted, LogFull}
use Rattle.event_core.specs.Refusal.{refusal, full_with, first_of, when, forked, known, held, not_holder}
use Rattle.event_core.specs.Refusal.{already_started, target_not_started, in_range, self_target, joins}
use Rattle.event_core.specs.Refusal.{open_acquires, value_of, WellFormed}
use Rattle.event_core.specs.Acts.{swap_refusal}
use Rattle.event_core.proofs.OpenAcquiresProperties.{depths_are_open, full_by_open}
use Rattle.traced_mem.specs.Refusals.{refusal_at, swap_refusal_at, forked_at, known_at, held_at}
use Rattle.traced_mem.specs.Refusals.{not_holder_at, already_started_at, target_not_started_at, log_full_at}
use Rattle.traced_mem.specs.After.{value_at}
use Rattle.traced_mem.specs.Standing.{meaning_of}

same_forked : (r : Roots) (log : List Event) (u : ThreadId) → forked_at r (meaning_of log) u ≡ forked r log u
same_forked OnlyMain log u = refl
same_forked Free log u = refl

same_known : (r : Roots) (log : List Event) (u : ThreadId) → known_at r (meaning_of log) u ≡ known r log u
same_known OnlyMain log u = refl
same_known Free log u = refl

same_held : (log : List Event) (u : ThreadId) (o : Op) → held_at (meaning_of log) u o ≡ held log u o
same_held log u (Acquire l) = refl
same_held log u _ = refl

same_not_holder : (log : List Event) (u : ThreadId) (o : Op)
    → not_holder_at (meaning_of log) u o ≡ not_holder log u o
same_not_holder log u (Release l) = refl
same_not_holder log u _ = refl

same_started : (k : Limits) (log : List Event) (o : Op)
    → already_started_at k (meaning_of log) o ≡ already_started k log o
same_started k log (Fork v) = ap (λ b. when b AlreadyStarted) (same_known k.roots log v)
same_started k log _ = refl

same_target : (k : Limits) (log : List Event) (o : Op)
    → target_not_started_at k (meaning_of log) o ≡ target_not_started k log o
same_target k log (Join v) = ap (λ b. when (not b) TargetNotStarted) (same_forked k.roots log v)
same_target k log _ = refl

same_full : (k : Limits) (log : List Event) (o : Op)
    → log_full_at k (meaning_of log) o ≡ full_with (open_acquires log) k log o
same_full k log (Acquire l) = refl
same_full k log (Release l) = refl
same_full k log _ = refl

-- a refusal read from the meaning of a log is the refusal after the log
pub same_refusal : (k : Limits) (log : List Event) (c : Call) → WellFormed k log
    → refusal_at k (meaning_of log) c.thread c.op ≡ refusal k log c
unfolding refusal_at refusal
same_refusal k log c w i =
    first_of (
    when (nat_le k.threads c.thread.0) ThreadRange
    ∷ when (not (same_forked k.roots log c.thread i)) NotStarted
    ∷ when (list_any (joins c.thread) log) Ended
    ∷ when (not (in_range k c.op)) TargetRange
    ∷ same_held log c.thread c.op i
    ∷ same_not_holder log c.thread c.op i
    ∷ self_target c.thread c.op
    ∷ same_started k log c.op i
    ∷ same_target k log c.op i
    ∷ (same_full k log c.op ∙ sym (full_by_open k log c.op w)) i
    ∷ []
    )

-- a refusal of a swap read from the meaning of a log is the refusal after the log
pub same_swap_refusal : (k : Limits) (log : List Event) (u : ThreadId) (x : VarId) → WellFormed k log
    → swap_refusal_at k (meaning_of log) u x ≡ swap_refusal k log u x
unfolding swap_refusal_at swap_refusal
same_swap_refusal k log u x w i =
    first_of (
    when (nat_le k.threads u.0) ThreadRange
    ∷ when (not (same_forked k.roots log u i)) NotStarted
    ∷ when (list_any (joins u) log) Ended
    ∷ when (not (in_range k (Load x))) TargetRange
    ∷ when (not (nat_le (length log + sym (depths_are_open k log w) i + 2) k.events)) LogFull
    ∷ []
    )

-- a value read from the meaning of a log is the value after the log
pub same_value : (log : List Event) (o : Op) (arg : ℕ) → value_at (meaning_of log) o arg ≡ value_of log o arg
same_value log (Load x) arg = refl
same_value log _ arg = refl
