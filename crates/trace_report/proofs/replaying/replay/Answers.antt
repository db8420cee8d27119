use Rattle.std.proofs.Common.{◌≡◌, ◌⊎◌, List, inl, sym, subst}
use Rattle.event_core.specs.declared.events.Event.{Event}
use Rattle.trace_report.specs.declared.summary.Summary.{Summary}
use Rattle.trace_report.specs.Judging.{RanOut, ReachesLine, line_of}
use Rattle.trace_report.specs.Reports.{AreNamed}
use Rattle.trace_report.proofs.TellsTextProperties.{fault_read, fault_tells, found_reached, if_found}
use Rattle.trace_report.proofs.TellsTextProperties.{trace_tells}
use Rattle.trace_report.proofs.replaying.replay.Goals as goal

pub tell_trace-answer-requires : goal.tell_trace-answer-requires
tell_trace-answer-requires g c =
    let text = c.in-Ok-judge_text.text in
    let found = c.in-Ok-judge_text.ensures.trace in
    record {
      named = subst (λ (l : List Event). AreNamed text.names l) (sym found.after.1) found.named;
    }

pub returns-clause-tells : goal.returns-clause-tells
returns-clause-tells g c says =
    trace_tells c.in-Ok-judge_text.ensures.trace (λ log a. a.1)
    (c.tell_trace-answer.ensures.tells says)

pub returns-in-Err-clause-tells : goal.returns-in-Err-clause-tells
returns-in-Err-clause-tells g c says =
    fault_tells (g.O.Output.written c.args.writer.now) (g.O.Output.written c.tell_failure.new.writer)
    c.in-Err.ensures.fault (c.tell_failure.ensures.tells says)

pub returns-in-Err-clause-reads : goal.returns-in-Err-clause-reads
returns-in-Err-clause-reads g c =
    fault_read Summary c.tell_failure.ensures.answers (c.judge_text.ensures.pulls, c.judge_text.ensures.few)
    c.in-Err.ensures.truncated

pub returns-in-Err-clause-memory : goal.returns-in-Err-clause-memory
returns-in-Err-clause-memory g c =
    if_found Summary (λ f. RanOut f → ReachesLine c.args.limits (g.I.Input.left c.args.reader.now) f
    ⊎ ((line_of f ≡ 1) × (c.judge_text.new.reader ≡ c.args.reader.now)))
    c.tell_failure.ensures.answers (λ out. inl (found_reached c.in-Err.ensures.fault out))
