-- What contracts see of a searcher: the log, and the limits under which it is well formed.
use Rattle.std.specs.Prelude.{List}
use Rattle.event_core.specs.declared.bounds.Limits.{Limits}
use Rattle.event_core.specs.declared.events.Event.{Event}

pub record Searched : Type 0 where
  pub limits : Limits
  pub log : List Event
