use Rattle.std.proofs.Common.{List, subst, sym}
use Rattle.event_core.specs.declared.events.Event.{Event}
use Rattle.trace_report.specs.Reports.{AreNamed}
use Rattle.trace_report.proofs.TellsTextProperties.{fault_read}
use Rattle.witness_report.specs.declared.shown.Shown.{Shown}
use Rattle.witness_report.proofs.ShowingProperties.{fault_answered, trace_answered}
use Rattle.witness_report.proofs.traces.show_trace.Goals as goal

pub show-shown-requires : goal.show-shown-requires
show-shown-requires g c =
    let text = c.in-Ok-judge_text.text in
    let found = c.in-Ok-judge_text.ensures.trace in
    record {
      named = subst (λ (l : List Event). AreNamed text.names l) (sym found.after.1) found.named;
    }

pub returns-in-Err-clause-answers : goal.returns-in-Err-clause-answers
returns-in-Err-clause-answers g c says =
    fault_answered c.args.event (g.O.Output.written c.args.writer.now)
    (g.O.Output.written c.tell_failure.new.writer) c.in-Err.ensures.fault (c.tell_failure.ensures.tells says)

pub returns-in-Err-clause-reads : goal.returns-in-Err-clause-reads
returns-in-Err-clause-reads g c =
    fault_read Shown c.tell_failure.ensures.answers (c.judge_text.ensures.pulls, c.judge_text.ensures.few)
    c.in-Err.ensures.truncated

pub returns-clause-answers : goal.returns-clause-answers
returns-clause-answers g c says =
    let found = c.in-Ok-judge_text.ensures.trace in
    trace_answered c.args.event (g.O.Output.written c.args.writer.now)
    (g.O.Output.written c.show-shown.new.writer) c.in-Ok-judge_text.text.judge.log found found.after.0
    (λ log a. a.1) (c.show-shown.ensures.answers says)
