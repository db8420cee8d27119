-- The names of refusals.
use Rattle.std.specs.Prelude.{ℕ, List, codes}
use Rattle.event_core.specs.declared.replies.Refusal.{Refusal}
use Rattle.event_core.specs.declared.replies.Refusal.TheVariants.{
  ThreadRange,
  NotStarted,
  Ended,
  TargetRange,
  Held,
  NotHolder,
  SelfTarget,
  AlreadyStarted,
  TargetNotStarted,
  LogFull,
  OutOfMemory,
}

-- the name of a refusal, without its holder
abbrev pub refusal_word : Refusal → List ℕ
refusal_word ThreadRange = codes "ThreadRange"
refusal_word NotStarted = codes "NotStarted"
refusal_word Ended = codes "Ended"
refusal_word TargetRange = codes "TargetRange"
refusal_word (Held by) = codes "Held"
refusal_word NotHolder = codes "NotHolder"
refusal_word SelfTarget = codes "SelfTarget"
refusal_word AlreadyStarted = codes "AlreadyStarted"
refusal_word TargetNotStarted = codes "TargetNotStarted"
refusal_word LogFull = codes "LogFull"
refusal_word OutOfMemory = codes "OutOfMemory"
