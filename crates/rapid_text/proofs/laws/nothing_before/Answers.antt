use Rattle.rapid_text.proofs.BeginsAtProperties.{begins_events, begins_fault}
use Rattle.rapid_text.proofs.laws.nothing_before.Goals as goal

pub returns : goal.returns
returns c = record { events = begins_events; fault = begins_fault }
