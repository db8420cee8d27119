use Rattle.one_log.specs.Joined.{IsJoinedInto}
use Rattle.one_log.specs.OneLog.{StandsIn}
use Rattle.one_log.proofs.Beginnings.{all_map}
use Rattle.one_log.proofs.IsJoinedIntoProperties.{stands_in}
use Rattle.one_log.proofs.Places.{have_places}
use Rattle.one_log.proofs.laws.joined_passes_stand_in_closed_log.Goals as goal

pub returns : goal.returns
returns c = λ m log closing joined w begins own into. (
  (
    record { begins = begins; own = own },
    all_map (λ child. IsJoinedInto child closing) (StandsIn log) joined
        (λ child i. stands_in m log child closing w begins i) into,
  ),
  have_places m log,
)
