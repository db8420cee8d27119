-- The report of a log: its counts, and a line for each event whose verdict is a race.
use Rattle.std.specs.Prelude.{
  ◌≡◌,
  ℕ,
  ◌+◌,
  ◌<◌,
  List,
  [],
  ◌∷◌,
  ◌++◌,
  Option,
  Some,
  None,
  codes,
  count_by,
  decimal,
  length,
  slice_get,
}
use Rattle.event_core.specs.declared.events.Event.{Event}
use Rattle.event_core.specs.declared.replies.Verdict.{Verdict}
use Rattle.event_core.specs.declared.replies.Verdict.TheVariants.{Clear, Racy}
use Rattle.rapid_line.specs.Grammar.{content_of}
use Rattle.rapid_text.specs.Tables.{Tables}
use Rattle.rapid_text.specs.Events.{named_by, HasNames}
use Rattle.trace_report.specs.Races.{is_race}
use Rattle.trace_report.specs.declared.summary.Summary.{Summary}

-- ---- the first line

-- how many events there are, how many names of threads, locks and variables, and how many races
abbrev pub summary_of : Tables → List Event → List Verdict → Summary
summary_of names log verdicts = record {
  events = length log;
  threads = length names.threads.names;
  locks = length names.locks.names;
  vars = length names.variables.names;
  races = count_by is_race verdicts;
}

-- a label and a number
abbrev pub labelled : List ℕ → ℕ → List ℕ
labelled label n = label ++ decimal n

-- events E threads T locks L variables V races R, and an LF
abbrev pub summary_line : Summary → List ℕ
summary_line s =
    labelled (codes "events ") s.events
    ++ labelled (codes " threads ") s.threads
    ++ labelled (codes " locks ") s.locks
    ++ labelled (codes " variables ") s.vars
    ++ labelled (codes " races ") s.races
    ++ 10 ∷ []

-- ---- a line for each race

-- i|thread|word(argument)|location of the event with index i - 1
abbrev pub numbered : Tables → ℕ → Option Event → List ℕ
numbered names index None = []
numbered names index (Some e) = decimal (index + 1) ++ 124 ∷ content_of (named_by names e)

abbrev pub event_at : Tables → List Event → ℕ → List ℕ
event_at names log index = numbered names index (slice_get log index)

-- the event, the earlier one that it races with, and an LF; nothing where it has no race
abbrev pub race_line : Tables → List Event → ℕ → Verdict → List ℕ
race_line names log j Clear = []
race_line names log j (Racy i) = event_at names log j ++ codes " with " ++ event_at names log i ++ 10 ∷ []

-- the lines of the events from index j on, with their verdicts
abbrev pub race_lines : Tables → List Event → ℕ → List Verdict → List ℕ
race_lines names log j [] = []
race_lines names log j (v ∷ vs) = race_line names log j v ++ race_lines names log (j + 1) vs

-- ---- the report

-- the report of a log with these verdicts on its events
unfoldable pub report_of : Tables → List Event → List Verdict → List ℕ
report_of names log verdicts =
    summary_line (summary_of names log verdicts) ++ race_lines names log 0 verdicts

-- there is a verdict for each event, and each race is with an event of the log
pub record AreWithin (log : List Event) (verdicts : List Verdict) : Type 0 where
  pub all : length verdicts ≡ length log
  pub each : (j i : ℕ) → slice_get verdicts j ≡ Some (Racy i) → i < length log

-- each number in the log has a name
abbrev pub AreNamed : Tables → List Event → Type 0
AreNamed names log = (j : ℕ) (e : Event) → slice_get log j ≡ Some e → HasNames names e
