use Rattle.std.proofs.Common.{All, List, subst, sym}
use Rattle.event_core.specs.declared.events.Event.{Event}
use Rattle.seq_monitor.specs.Monitored.{AreVerdicts}
use Rattle.trace_report.specs.Reports.{AreNamed}
use Rattle.witness_report.specs.declared.table.Row.{Row}
use Rattle.witness_report.specs.Found.{IsWithin, race_in}
use Rattle.witness_report.proofs.AreRowsProperties.{rows_within}
use Rattle.witness_report.proofs.table.show_pairs.Goals as goal

pub write_lines-written-requires-clause-named : goal.write_lines-written-requires-clause-named
write_lines-written-requires-clause-named g c =
    subst (λ (log : List Event). AreNamed c.args.names.now log) (sym c.log-log.ensures.log) c.requires.named

pub write_lines-written-requires-clause-within : goal.write_lines-written-requires-clause-within
write_lines-written-requires-clause-within g c =
    let log = c.log-log.result.now.events in
    subst (All (λ (row : Row). IsWithin log (race_in row))) (sym c.deref.ensures.value)
    (rows_within c.limits.result log c.verdicts-verdicts.result.now.verdicts c.races.result.now
    c.in-Ok.rows.items
    (subst (λ (l : List Event). AreVerdicts l c.verdicts-verdicts.result.now.verdicts)
    (sym c.log-log.ensures.log) c.verdicts-verdicts.ensures)
    c.races.ensures c.in-Ok.ensures)
