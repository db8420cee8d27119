use Rattle.std.proofs.Common.{List, ℕ, ap}
use Rattle.std.proofs.lemmas.Result.{on_ok_weaker}
use Rattle.rapid_text.proofs.PutsProperties.{put_both, put_same}
use Rattle.trace_report.specs.Reports.{labelled}
use Rattle.witness_report.specs.Found.{race_line_of}
use Rattle.witness_report.proofs.table.RowLine.put.Goals as goal

pub returns-clause-ok : goal.returns-clause-ok
returns-clause-ok g c =
    let names = c.args.names.now in
    let log = c.args.log.now.events in
    on_ok_weaker c.put_race.result
    (λ h. put_both
    (put_both
    (put_same (ap (λ (word : List ℕ). labelled word c.args.self.now.pair.races) c.word_for.ensures)
    c.in_ok-put_count.ensures.ok)
    c.in_ok-put.ensures.ok)
    (put_same (ap (race_line_of names log) c.unwrap_or.ensures) h))
    c.put_race.ensures.ok
