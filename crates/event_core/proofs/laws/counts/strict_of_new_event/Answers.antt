use Rattle.std.proofs.Common.{[], ◌∷◌, ◌++◌}
use Rattle.event_core.proofs.StrictNewProperties.{strict_new, new_strict}
use Rattle.event_core.proofs.OrderlyProperties.{orderly}
use Rattle.event_core.proofs.laws.counts.strict_of_new_event.Goals as goal

pub returns : goal.returns
returns c = λ m log e i w. (
  λ h. strict_new log e i (orderly m (log ++ e ∷ []) w) h,
  λ h. new_strict log e i (orderly m (log ++ e ∷ []) w) h,
)
