use Rattle.event_core.proofs.OrderlyProperties.{orderly}
use Rattle.event_core.proofs.StrictIsWithinHb.{below_hb}
use Rattle.trace_laws.proofs.laws.hb_races_are_races.Goals as goal

pub returns : goal.returns
returns c = λ m log i j w lt conflict apart.
    record { before = lt; conflict = conflict; unordered = λ b. apart (below_hb (orderly m log w) b) }
