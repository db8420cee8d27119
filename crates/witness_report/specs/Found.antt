-- What is shown of a log: the witness of one event's race, or which pairs of locations have one.
use Rattle.std.specs.Prelude.{◌≡◌, ℕ, ◌+◌, ◌<◌, List, ◌∷◌, ◌++◌, [], Option, Some, None, All, Contains}
use Rattle.std.specs.Prelude.{IfSome, codes, flat_map, length, map, unwrap_or}
use Rattle.event_core.specs.declared.bounds.Limits.{Limits}
use Rattle.event_core.specs.declared.events.Event.{Event}
use Rattle.event_core.specs.declared.replies.Verdict.{Verdict}
use Rattle.event_core.specs.declared.replies.Verdict.TheVariants.{Racy}
use Rattle.event_core.specs.Verdict.{IsVerdict}
use Rattle.rapid_text.specs.Tables.{Tables}
use Rattle.seq_monitor.specs.Monitored.{AreVerdicts}
use Rattle.verdict_list.specs.declared.verdicts.Race.{Race}
use Rattle.verdict_list.specs.Judged.{races_from}
use Rattle.trace_report.specs.declared.summary.Summary.{Summary}
use Rattle.trace_report.specs.Findings.{Trace}
use Rattle.trace_report.specs.Reports.{labelled, race_line, summary_line, summary_of}
use Rattle.witness.specs.Witness.{IsWitness}
use Rattle.witness_report.specs.declared.pairs.Pair.{Pair}
use Rattle.witness_report.specs.declared.pairs.Sites.{Sites}
use Rattle.witness_report.specs.declared.table.Row.{Row}
use Rattle.witness_report.specs.Lines.{line_at, lines_at}
use Rattle.witness_report.specs.Pairs.{pairs_of, sites_of}

-- ---- one event

-- the race of the event with this number, counted from 1, by the definition's verdict
pub record IsRaceOf (log : List Event) (number : ℕ) (r : Race) : Type 0 where
  pub event : number ≡ r.event + 1
  pub verdict : IsVerdict log r.event (Racy r.with)

-- the text has a line for each event of a witness for the event's race, and then for the two that race
pub record ShowsWitness (m : Limits) (t : Trace) (number : ℕ) (text : List ℕ) : Type 0 where
  pub race : Race
  pub is_race : IsRaceOf t.log number race
  pub order : List ℕ
  pub witness : IsWitness m t.log race.with race.event order
  pub text_is : text ≡ lines_at t.names t.log order
      ++ line_at t.names t.log race.with
      ++ line_at t.names t.log race.event

-- the line `none`
abbrev pub none_line : List ℕ
none_line = codes "none" ++ 10 ∷ []

-- the event races, and the text is the line `none`
pub record ShowsNone (t : Trace) (number : ℕ) (text : List ℕ) : Type 0 where
  pub race : Race
  pub is_race : IsRaceOf t.log number race
  pub text_is : text ≡ none_line

-- the event does not race with an earlier one, or there is no such event
abbrev pub IsNoRace : List Event → ℕ → Type 0
IsNoRace log number = (r : Race) → IsRaceOf log number r → ⊥

-- ---- pairs of locations

-- there is a witness for the race
abbrev pub HasWitness : Limits → List Event → Race → Type 0
HasWitness m log r = (order : List ℕ) × IsWitness m log r.with r.event order

-- one of the races, between these two locations, and with a witness
pub record IsShown (m : Limits) (log : List Event) (races : List Race) (sites : Sites) (r : Race)
    : Type 0 where
  pub among : Contains races r
  pub between : sites_of log r ≡ sites
  pub witness : HasWitness m log r

-- what the row shows is one of its races, with a witness
abbrev pub IsRow : Limits → List Event → List Race → Row → Type 0
IsRow m log races row = IfSome row.shown (IsShown m log races row.pair.sites)

abbrev pub row_word : Option Race → List ℕ
row_word None = codes "none "
row_word (Some r) = codes "witness "

abbrev pub race_line_of : Tables → List Event → Race → List ℕ
race_line_of names log r = race_line names log r.event (Racy r.with)

-- the race that is shown, or else the first between the two locations
abbrev pub race_in : Row → Race
race_in row = unwrap_or row.shown row.pair.first

-- witness or none, how many races there are between the two locations, and the line of the report of the
-- race
abbrev pub row_line : Tables → List Event → Row → List ℕ
row_line names log row =
    labelled (row_word row.shown) row.pair.races
    ++ codes " "
    ++ race_line_of names log (race_in row)

abbrev pub row_lines : Tables → List Event → List Row → List ℕ
row_lines names log = flat_map (row_line names log)

abbrev pub pairs_in : List Row → List Pair
pairs_in = map (λ row. row.pair)

-- there is a row for each pair of locations of the races, in the order of their first races, and what a row
-- shows has a witness
pub record AreRows (m : Limits) (log : List Event) (races : List Race) (rows : List Row) : Type 0 where
  pub pairs : pairs_in rows ≡ pairs_of log races
  pub each : All (IsRow m log races) rows

-- the race is between events of the log
abbrev pub IsWithin : List Event → Race → Type 0
IsWithin log r = (r.event < length log) × (r.with < length log)

-- the text has the counts of the report, and a line for each row
pub record ShowsPairs (m : Limits) (t : Trace) (summary : Summary) (text : List ℕ) : Type 0 where
  pub verdicts : List Verdict
  pub are : AreVerdicts t.log verdicts
  pub summary_is : summary ≡ summary_of t.names t.log verdicts
  pub rows : List Row
  pub are_rows : AreRows m t.log (races_from 0 verdicts) rows
  pub text_is : text ≡ summary_line summary ++ row_lines t.names t.log rows
