use Rattle.std.proofs.Common.{List, sym, ap, subst, ◌∙◌}
use Rattle.event_core.specs.declared.events.Event.{Event}
use Rattle.seq_monitor.specs.Monitored.{AreVerdicts}
use Rattle.trace_report.specs.Reports.{AreNamed, report_of, summary_of}
use Rattle.trace_report.proofs.TellsTextProperties.{verdicts_within}
use Rattle.trace_report.proofs.telling.tell_trace.Goals as goal

pub report-requires-clause-verdicts : goal.report-requires-clause-verdicts
report-requires-clause-verdicts g c =
    verdicts_within c.log.result.now.events c.verdicts.result.now.verdicts
    (subst (λ (log : List Event). AreVerdicts log c.verdicts.result.now.verdicts)
    (sym c.log.ensures.log) c.verdicts.ensures)

pub report-requires-clause-named : goal.report-requires-clause-named
report-requires-clause-named g c =
    subst (λ (log : List Event). AreNamed c.args.names.now log) (sym c.log.ensures.log) c.requires.named

pub returns-in-Ok-clause-tells : goal.returns-in-Ok-clause-tells
returns-in-Ok-clause-tells g c _ = record {
  text = report_of c.args.names.now c.log.result.now.events c.verdicts.result.now.verdicts;
  tells = record {
    verdicts = c.verdicts.result.now.verdicts;
    are = c.verdicts.ensures;
    text_is = ap (λ (log : List Event). report_of c.args.names.now log c.verdicts.result.now.verdicts)
        c.log.ensures.log;
    summary = c.in-Ok.ensures.summary
        ∙ ap (λ (log : List Event). summary_of c.args.names.now log c.verdicts.result.now.verdicts)
        c.log.ensures.log;
  };
  written = c.in-Ok.ensures.ok;
}
