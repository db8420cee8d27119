use Rattle.rapid_text.proofs.PushedProperties.{joined_ends, joined_stops, joined_closes}
use Rattle.rapid_text.proofs.laws.pieces_are_one_text.Goals as goal

pub returns : goal.returns
returns c = record { ends = joined_ends; stops = joined_stops; closes = joined_closes }
