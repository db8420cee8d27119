use Rattle.trace_report.specs.declared.counts.Counts.{Counts}
use Rattle.trace_report.specs.Judging.{RanOut, ReachesLine}
use Rattle.trace_report.proofs.TellsTextProperties.{fault_checks, fault_read, found_reached, if_found}
use Rattle.trace_report.proofs.TellsTextProperties.{trace_checks}
use Rattle.trace_report.proofs.checking.check.Goals as goal

pub returns-in-Ok-write-clause-checks : goal.returns-in-Ok-write-clause-checks
returns-in-Ok-write-clause-checks g c _ =
    trace_checks (g.O.Output.written c.args.writer.now) (g.O.Output.written c.write.new.writer)
    c.in-Ok.ensures.trace (λ log after. c.len.ensures.count log after.1)
    c.of-counts.ensures c.in-Ok-write.ensures.ok

pub returns-in-Err-clause-checks : goal.returns-in-Err-clause-checks
returns-in-Err-clause-checks g c says =
    fault_checks (g.O.Output.written c.args.writer.now) (g.O.Output.written c.tell_failure.new.writer)
    c.in-Err.ensures.fault (c.tell_failure.ensures.tells says)

pub returns-in-Err-clause-reads : goal.returns-in-Err-clause-reads
returns-in-Err-clause-reads g c =
    fault_read Counts c.tell_failure.ensures.answers (c.judge_text.ensures.pulls, c.judge_text.ensures.few)
    c.in-Err.ensures.truncated

pub returns-in-Err-clause-memory : goal.returns-in-Err-clause-memory
returns-in-Err-clause-memory g c =
    if_found Counts (λ f. RanOut f → ReachesLine c.args.limits (g.I.Input.left c.args.reader.now) f)
    c.tell_failure.ensures.answers (found_reached c.in-Err.ensures.fault)
