-- The lines of a log's events, as a trace has them.
use Rattle.std.specs.Prelude.{ℕ, List, [], ◌∷◌, ◌++◌, Option, Some, None, flat_map, slice_get}
use Rattle.event_core.specs.declared.events.Event.{Event}
use Rattle.rapid_line.specs.Grammar.{content_of}
use Rattle.rapid_text.specs.Events.{named_by}
use Rattle.rapid_text.specs.Tables.{Tables}

-- the content of the event's line, and an LF
abbrev pub event_line : Tables → Option Event → List ℕ
event_line names None = []
event_line names (Some e) = content_of (named_by names e) ++ 10 ∷ []

abbrev pub line_at : Tables → List Event → ℕ → List ℕ
line_at names log k = event_line names (slice_get log k)

-- the lines of the events at these indices, one after another
abbrev pub lines_at : Tables → List Event → List ℕ → List ℕ
lines_at names log = flat_map (line_at names log)
