use Rattle.one_log.proofs.Meetings.{met_passes}
use Rattle.one_log.proofs.laws.met_passes_stand_in_one_log.Goals as goal

pub returns : goal.returns
returns c = met_passes
