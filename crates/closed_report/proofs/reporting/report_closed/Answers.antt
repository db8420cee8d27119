use Rattle.std.proofs.Common.{Ok, Err, refl, rules}
use Rattle.trace_report.proofs.TellsTextProperties.{verdicts_within}
use Rattle.closed_report.specs.declared.reporting.ReportFault.TheVariants.{Write}
use Rattle.closed_report.proofs.TellsUnnamedProperties.{not_told}
use Rattle.closed_report.proofs.reporting.report_closed.Goals as goal

pub returns-in_err-all_named-clause-unnamed : goal.returns-in_err-all_named-clause-unnamed
returns-in_err-all_named-clause-unnamed g c =
    rw (← c.log-log.ensures.log) (λ _. search rules, λ _. search rules)

pub report-requires-clause-verdicts : goal.report-requires-clause-verdicts
report-requires-clause-verdicts g c = rw c.log-log.ensures.log (verdicts_within _ _ c.verdicts.ensures)

pub report-requires-clause-named : goal.report-requires-clause-named
report-requires-clause-named g c = c.in_ok-all_named.ensures.named.0 refl

pub returns-in-Ok-clause-ok : goal.returns-in-Ok-clause-ok
returns-in-Ok-clause-ok g c =
    rw (← c.log-log.ensures.log) (record {
      verdicts = c.verdicts.result.now.verdicts;
      judged = rw c.log-log.ensures.log c.verdicts.ensures;
      named = c.in_ok-all_named.ensures.named.0 refl;
      written = c.in-Ok.ensures.ok;
      summary_is = c.in-Ok.ensures.summary;
    })

pub returns-in-Ok-clause-unnamed : goal.returns-in-Ok-clause-unnamed
returns-in-Ok-clause-unnamed g c =
    rw (← c.log-log.ensures.log) (not_told (Ok c.in-Ok.summary) (λ never. never)
    (c.in_ok-all_named.ensures.named.0 refl))

pub returns-in-Err-clause-unnamed : goal.returns-in-Err-clause-unnamed
returns-in-Err-clause-unnamed g c =
    rw (← c.log-log.ensures.log) (not_told (Err Write) (λ never. never)
    (c.in_ok-all_named.ensures.named.0 refl))
