use Rattle.event_core.proofs.HbNewProperties.{hb_new, new_hb}
use Rattle.event_core.proofs.laws.counts.hb_of_new_event.Goals as goal

pub returns : goal.returns
returns c = λ log e i. (λ h. hb_new log e i h, λ h. new_hb log e i h)
