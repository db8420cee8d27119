use Rattle.std.proofs.Common.{Ok, Err, refl, rules}
use Rattle.closed_report.specs.declared.reporting.ReportFault.TheVariants.{Write}
use Rattle.closed_report.proofs.TellsUnnamedProperties.{not_told}
use Rattle.closed_report.proofs.places.report_places.Goals as goal

pub returns-in_err-all_named-clause-unnamed : goal.returns-in_err-all_named-clause-unnamed
returns-in_err-all_named-clause-unnamed g c =
    rw (← c.log-log.ensures.log) (λ _. search rules, λ _. search rules)

pub write_places-requires-clause-named : goal.write_places-requires-clause-named
write_places-requires-clause-named g c = c.in_ok-all_named.ensures.named.0 refl

pub returns-in-Ok-clause-ok : goal.returns-in-Ok-clause-ok
returns-in-Ok-clause-ok g c =
    rw (← c.log-log.ensures.log) (record {
      verdicts = c.verdicts.result.now.verdicts;
      judged = rw c.log-log.ensures.log c.verdicts.ensures;
      named = c.in_ok-all_named.ensures.named.0 refl;
      summary_is = c.of-summary.ensures;
      written = c.in-Ok.ensures.ok;
    })

pub returns-in-Ok-clause-unnamed : goal.returns-in-Ok-clause-unnamed
returns-in-Ok-clause-unnamed g c =
    rw (← c.log-log.ensures.log) (not_told (Ok c.of-summary.result) (λ never. never)
    (c.in_ok-all_named.ensures.named.0 refl))

pub returns-in-Err-clause-unnamed : goal.returns-in-Err-clause-unnamed
returns-in-Err-clause-unnamed g c =
    rw (← c.log-log.ensures.log) (not_told (Err Write) (λ never. never)
    (c.in_ok-all_named.ensures.named.0 refl))
