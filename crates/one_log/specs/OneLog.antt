-- One log: what it is to a pass, and what it is to an accepted call.
use Rattle.std.specs.Prelude.{◌≡◌, ◌+◌, List, ◌++◌}
use mathlib.Core.List.{IsPrefix}
use Rattle.event_core.specs.declared.events.Event.{Event}
use Rattle.event_core.specs.declared.events.Act.{Act}
use Rattle.event_core.specs.declared.bounds.Limits.{Limits}
use Rattle.event_core.specs.declared.replies.Done.{Done}
use Rattle.event_core.specs.declared.replies.Done.TheVariants.{One as Answered, Swap as Swapped, Refused}
use Rattle.event_core.specs.declared.steps.Step.{Step}
use Rattle.event_core.specs.Acts.{IsDone, step_of}
use Rattle.event_core.specs.Steps.{step_events, log_of, own}
use Rattle.event_core.specs.Verdict.{IsVerdict}
use Rattle.log_pass.specs.declared.views.PassView.{PassView}
use Rattle.live_monitor.specs.Calls.{AcceptedAct}
use Rattle.live_monitor.specs.Rules.{HasOwn}

-- the pass stands in the log: the log begins with what the pass has seen, and has of the pass's thread
-- exactly the pass's own events, each once and in their order
pub record StandsIn (log : List Event) (p : PassView) : Type 0 where
  pub begins : IsPrefix (log_of p.seen) log
  pub own : HasOwn p log

-- the same of a list of steps: a swap's two events are one step
pub record StandsAmong (steps : List Step) (p : PassView) : Type 0 where
  pub begins : IsPrefix p.seen steps
  pub own : p.mine ≡ own p.thread steps
  pub in_log : StandsIn (log_of steps) p

-- the verdicts that were answered are those on the events in the log
abbrev pub HasVerdicts : List Event → Done → Type 0
HasVerdicts log (Answered a) = IsVerdict log a.index a.verdict
HasVerdicts log (Swapped a) = IsVerdict log a.index a.load × IsVerdict log (a.index + 1) a.store
HasVerdicts log (Refused r) = Unit {0}

-- The act has its place in the log: this became of it after the events before, by the sequential monitor's
-- definition. Its own events come next, and its verdicts are those on them in the whole log.
pub record HasPlace (m : Limits) (log : List Event) (act : Act) (done : Done) : Type 0 where
  pub before : List Event
  pub outcome : IsDone m before act done
  pub events : IsPrefix (before ++ step_events (step_of before act)) log
  pub verdicts : HasVerdicts log done

-- each act that was accepted has its place in the log, if the log begins with what its pass had then seen
abbrev pub HavePlaces : Limits → List Event → Type 0
HavePlaces m log =
    (act : Act) (before after : PassView) (done : Done) → AcceptedAct m act before after done
    → IsPrefix (log_of after.seen) log → HasPlace m log act done
