-- Swaps, and the runs of lists of acts.
--
-- A swap is a load and then a store of one variable by one thread, with nothing between: both events are
-- added to the log, or none. An act is a call or a swap.
use Rattle.std.specs.Prelude.{◌≡◌, ℕ, ◌+◌, List, [], ◌∷◌, ◌++◌, Option, Some, None, nat_le, not, length}
use Rattle.std.specs.List.{list_any}
use Rattle.event_core.specs.declared.ids.ThreadId.{ThreadId}
use Rattle.event_core.specs.declared.ids.VarId.{VarId}
use Rattle.event_core.specs.declared.ids.SiteId.{SiteId}
use Rattle.event_core.specs.declared.events.Event.{Event}
use Rattle.event_core.specs.declared.events.Call.{Call}
use Rattle.event_core.specs.declared.events.Act.{Act}
use Rattle.event_core.specs.declared.events.Act.TheVariants.{One, Swap}
use Rattle.event_core.specs.declared.events.Op.TheVariants.{Load, Store}
use Rattle.event_core.specs.declared.bounds.Limits.{Limits}
use Rattle.event_core.specs.declared.replies.Refusal.{Refusal}
use Rattle.event_core.specs.declared.replies.Refusal.TheVariants.{ThreadRange, NotStarted, Ended, TargetRange}
use Rattle.event_core.specs.declared.replies.Refusal.TheVariants.{LogFull}
use Rattle.event_core.specs.declared.replies.Outcome.TheVariants.{Accepted as CallAccepted}
use Rattle.event_core.specs.declared.replies.Outcome.TheVariants.{Refused as CallRefused}
use Rattle.event_core.specs.declared.replies.SwapReply.{SwapReply}
use Rattle.event_core.specs.declared.replies.Done.{Done}
use Rattle.event_core.specs.declared.replies.Done.TheVariants.{One as Accepted, Swap as Swapped, Refused}
use Rattle.event_core.specs.declared.steps.Step.{Step}
use Rattle.event_core.specs.declared.steps.Step.TheVariants.{One as OneEvent, Swap as BothEvents}
use Rattle.event_core.specs.Refusal.{held_depths, first_of, when, forked, joins, in_range, event_of}
use Rattle.event_core.specs.Refusal.{last_value, refusal}
use Rattle.event_core.specs.Verdict.{IsVerdict, IsOutcome}

-- the call for the load of a swap
abbrev pub load_call : ThreadId → VarId → SiteId → Call
load_call u x site = record { thread = u; op = Load x; site = site; arg = 0 }

-- why a swap of the variable is refused after the log, if it is: as its load would be, but it needs two slots
unfoldable pub swap_refusal : Limits → List Event → ThreadId → VarId → Option Refusal
swap_refusal m log u x = first_of (
    when (nat_le m.threads u.0) ThreadRange
    ∷ when (not (forked m.roots log u)) NotStarted
    ∷ when (list_any (joins u) log) Ended
    ∷ when (not (in_range m (Load x))) TargetRange
    ∷ when (not (nat_le (length log + held_depths m log + 2) m.events)) LogFull
    ∷ []
    )

-- why an act is refused after the log, if it is
abbrev pub act_refusal : Limits → List Event → Act → Option Refusal
act_refusal m log (One c) = refusal m log c
act_refusal m log (Swap u x site arg) = swap_refusal m log u x

-- the first event of an accepted swap, which reads the last value stored
abbrev pub swap_load : List Event → ThreadId → VarId → SiteId → Event
swap_load log u x site = record { thread = u; op = Load x; site = site; value = last_value log x }

-- the second event of an accepted swap, which stores its argument
abbrev pub swap_store : ThreadId → VarId → SiteId → ℕ → Event
swap_store u x site arg = record { thread = u; op = Store x; site = site; value = arg }

-- the step of an accepted act: the event of a call, or the two of a swap
abbrev pub step_of : List Event → Act → Step
step_of log (One c) = OneEvent (event_of log c)
step_of log (Swap u x site arg) = BothEvents (swap_load log u x site) (swap_store u x site arg)

-- the log after an accepted swap
abbrev pub log_after_swap : List Event → ThreadId → VarId → SiteId → ℕ → List Event
log_after_swap log u x site arg = log ++ swap_load log u x site ∷ swap_store u x site arg ∷ []

-- the reply to an accepted swap: the index of its load, the value that was read, and a verdict on each event
pub record IsSwapReply (m : Limits) (log : List Event) (u : ThreadId) (x : VarId) (site : SiteId) (arg : ℕ)
    (reply : SwapReply) : Type 0 where
  pub allowed : swap_refusal m log u x ≡ None
  pub index : reply.index ≡ length log
  pub value : reply.value ≡ last_value log x
  pub load : IsVerdict (log_after_swap log u x site arg) (length log) reply.load
  pub store : IsVerdict (log_after_swap log u x site arg) (length log + 1) reply.store

-- what becomes of an act after the log: of a call its outcome, of a swap its refusal or its reply
abbrev pub IsDone : Limits → List Event → Act → Done → Type 0
IsDone m log (One c) (Accepted a) = IsOutcome m log c (CallAccepted a)
IsDone m log (One c) (Refused r) = IsOutcome m log c (CallRefused r)
IsDone m log (Swap u x site arg) (Swapped a) = IsSwapReply m log u x site arg a
IsDone m log (Swap u x site arg) (Refused r) = swap_refusal m log u x ≡ Some r
IsDone m log _ _ = ⊥

-- the log after the act: only an accepted one adds to it
abbrev pub log_after_act : List Event → Act → Done → List Event
log_after_act log (One c) (Accepted a) = log ++ event_of log c ∷ []
log_after_act log (Swap u x site arg) (Swapped a) = log_after_swap log u x site arg
log_after_act log _ _ = log

-- the run of the acts from the log on: what becomes of them one after another, and the log at the end
abbrev pub IsActRun : Limits → List Event → List Act → List Done → List Event → Type 0
IsActRun m log [] [] end = end ≡ log
IsActRun m log (a ∷ as') (d ∷ ds) end = IsDone m log a d × IsActRun m (log_after_act log a d) as' ds end
IsActRun m log _ _ end = ⊥
