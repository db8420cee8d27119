-- The races that rows have are between events of the log.
use Rattle.std.proofs.Common.{◌≡◌, List, [], ◌∷◌, Option, Some, None, All, IfSome, refl, subst, sym}
use Rattle.std.specs.Prelude.{unwrap_or}
use Rattle.std.proofs.lemmas.List.Elements.{All-cons, All-contains, All-head, All-nil, All-tail}
use Rattle.std.proofs.lemmas.Option.{slice_get-get_or}
use Rattle.event_core.specs.declared.bounds.Limits.{Limits}
use Rattle.event_core.specs.declared.events.Event.{Event}
use Rattle.event_core.specs.declared.replies.Verdict.{Verdict}
use Rattle.seq_monitor.specs.Monitored.{AreVerdicts}
use Rattle.verdict_list.specs.declared.verdicts.Race.{Race}
use Rattle.verdict_list.specs.Judged.{races_from}
use Rattle.trace_report.proofs.Races.{races_within}
use Rattle.trace_report.proofs.TellsTextProperties.{verdicts_within}
use Rattle.witness_report.specs.declared.pairs.Pair.{Pair}
use Rattle.witness_report.specs.declared.table.Row.{Row}
use Rattle.witness_report.specs.Found.{AreRows, IsRow, IsShown, IsWithin, pairs_in, race_in}
use Rattle.witness_report.proofs.PairsProperties.{first_of_pairs}

all_within : (log : List Event) (verdicts : List Verdict) → AreVerdicts log verdicts
    → All (IsWithin log) (races_from 0 verdicts)
all_within log verdicts are k d lt =
    races_within k (verdicts_within log verdicts are) refl (slice_get-get_or (races_from 0 verdicts) k d lt)

-- a row's race: what is shown is one of the races
row_within : (m : Limits) (log : List Event) (races : List Race) (row : Row) → All (IsWithin log) races
    → IsRow m log races row → IsWithin log row.pair.first → IsWithin log (race_in row)
row_within m log races row all is first = go row.shown is
  where
    go : (o : Option Race) → IfSome o (IsShown m log races row.pair.sites)
        → IsWithin log (unwrap_or o row.pair.first)
    go None is = first
    go (Some r) is = All-contains (IsWithin log) races r all is.among

each_within : (m : Limits) (log : List Event) (races : List Race) (rows : List Row)
    → All (IsWithin log) races → All (λ (p : Pair). IsWithin log p.first) (pairs_in rows)
    → All (IsRow m log races) rows → All (λ (row : Row). IsWithin log (race_in row)) rows
each_within m log races [] all firsts each = All-nil (λ (row : Row). IsWithin log (race_in row))
each_within m log races (row ∷ rows) all firsts each =
    All-cons (λ (row : Row). IsWithin log (race_in row)) row rows
    (row_within m log races row all (All-head (IsRow m log races) row rows each)
    (All-head (λ (p : Pair). IsWithin log p.first) row.pair (pairs_in rows) firsts))
    (each_within m log races rows all
    (All-tail (λ (p : Pair). IsWithin log p.first) row.pair (pairs_in rows) firsts)
    (All-tail (IsRow m log races) row rows each))

-- the race of each row is between events of the log
pub rows_within : (m : Limits) (log : List Event) (verdicts : List Verdict) (races : List Race)
    (rows : List Row) → AreVerdicts log verdicts → races ≡ races_from 0 verdicts → AreRows m log races rows
    → All (λ (row : Row). IsWithin log (race_in row)) rows
rows_within m log verdicts races rows are is h =
    let all = subst (All (IsWithin log)) (sym is) (all_within log verdicts are) in
    each_within m log races rows all
    (subst (All (λ (p : Pair). IsWithin log p.first)) (sym h.pairs)
    (first_of_pairs (IsWithin log) log races all))
    h.each
