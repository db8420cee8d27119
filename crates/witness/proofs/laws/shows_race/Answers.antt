use Rattle.event_core.proofs.ConflictProperties.{flipped}
use Rattle.witness.proofs.RaceAtEndProperties.{at_end, turned}
use Rattle.witness.proofs.laws.shows_race.Goals as goal

pub returns : goal.returns
returns c = λ m log i j s e f formed at_i at_j conflict w. (
  at_end m log i j s e f formed at_i at_j conflict w,
  at_end m log j i s f e formed at_j at_i (flipped conflict) (turned w),
)
