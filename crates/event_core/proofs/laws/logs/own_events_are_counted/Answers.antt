use Rattle.std.proofs.Common.{nat_eq}
use Rattle.std.proofs.lemmas.List.Sums.{length-filter}
use Rattle.event_core.specs.declared.events.Event.{Event}
use Rattle.event_core.specs.Count.{events_of}
use Rattle.event_core.proofs.laws.logs.own_events_are_counted.Goals as goal

pub returns : goal.returns
unfolding events_of
returns c = λ u log. length-filter (λ (e : Event). nat_eq e.thread.0 u.0) log
