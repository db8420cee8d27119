use Rattle.log_examples.proofs.SectionExamples.{latest_race}
use Rattle.log_examples.proofs.examples.latest_race_is_told.Goals as goal

pub returns : goal.returns
returns c = latest_race
