use Rattle.traced_thread.proofs.IsReleasedProperties.{is_released}
use Rattle.traced_thread.proofs.sections.Section.drop.Goals as goal

-- what the release answered
pub returns-clause-released : goal.returns-clause-released
returns-clause-released g c =
    let a = c.release-answer in let does = a.ensures in
    is_released c.args.self.lock c.args.self.site a.result does.answers does.refused does.ended
