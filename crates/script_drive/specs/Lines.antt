-- The lines of a script as events: which events are those of which lines.
use Rattle.std.specs.Prelude.{◌≡◌, ℕ, true, false, List, [], ◌∷◌, map, filter}
use Rattle.std.specs.List.{flat_map, list_any}
use Rattle.event_core.specs.declared.ids.ThreadId.{ThreadId}
use Rattle.event_core.specs.declared.events.Event.{Event}
use Rattle.event_core.specs.declared.events.Op.{Op}
use Rattle.event_core.specs.declared.events.Op.TheVariants.{Load, Store}
use Rattle.event_core.specs.declared.events.Act.{Act}
use Rattle.event_core.specs.declared.events.Act.TheVariants.{One, Swap}
use Rattle.event_core.specs.Steps.{own_events}
use Rattle.script_text.specs.declared.lines.ScriptLine.{ScriptLine}
use Rattle.script_text.specs.Lines.{is_of, joins}

-- the value that an operation is given: that of a store, and 0 for others
abbrev pub given : Op → ℕ → ℕ
given (Store x) n = n
given _ n = 0

-- the event without what it read
abbrev pub unread : Event → Event
unread e = record { thread = e.thread; op = e.op; site = e.site; value = given e.op e.value }

-- the events that an act asks for, without what they will read: one, or a load and a store for a swap
abbrev pub asked_by : Act → List Event
asked_by (One c) = record { thread = c.thread; op = c.op; site = c.site; value = given c.op c.arg } ∷ []
asked_by (Swap t x site arg) =
    record { thread = t; op = Load x; site = site; value = 0 }
    ∷ record { thread = t; op = Store x; site = site; value = arg }
    ∷ []

-- the events that the lines ask for, in order
abbrev pub asked : List ScriptLine → List Event
asked = flat_map (λ l. asked_by l.act)

-- the events are those of these lines, in order: each has the line's thread, operation and place, and a store
-- the line's value
abbrev pub Follows : List Event → List ScriptLine → Type 0
Follows events lines = map unread events ≡ asked lines

-- the lines of one thread, in order
abbrev pub lines_by : ThreadId → List ScriptLine → List ScriptLine
lines_by t = filter (is_of t.0)

-- u is joined from t: a line of t joins u, or joins a thread from which u is joined
pub data IsJoinedFrom (script : List ScriptLine) : ThreadId → ThreadId → Type 0 where
  itself : {t u : ThreadId} → list_any (joins u.0) (lines_by t script) ≡ true → IsJoinedFrom script t u
  through : {t u : ThreadId} (v : ThreadId) → list_any (joins v.0) (lines_by t script) ≡ true
      → IsJoinedFrom script v u → IsJoinedFrom script t u

-- a line joins the thread
abbrev pub IsJoined : List ScriptLine → ThreadId → Type 0
IsJoined script t = list_any (joins t.0) script ≡ true

-- no line joins the thread
abbrev pub IsUnjoined : List ScriptLine → ThreadId → Type 0
IsUnjoined script t = list_any (joins t.0) script ≡ false

-- the thread has made all its lines in the log, as has each thread that is joined from it
abbrev pub AllMadeFrom : List ScriptLine → List Event → ThreadId → Type 0
AllMadeFrom script log t = Follows (own_events t log) (lines_by t script)
    × ((u : ThreadId) → IsJoinedFrom script t u → Follows (own_events u log) (lines_by u script))
