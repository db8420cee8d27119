use Rattle.std.proofs.Common.{◌≡◌, [], Some, Result, true, sym, subst, ◌∙◌}
use Rattle.rapid_text.specs.Cutting.{judged}
use Rattle.trace_report.specs.declared.faults.TraceFault.{TraceFault}
use Rattle.trace_report.specs.declared.summary.Summary.{Summary}
use Rattle.trace_report.specs.Findings.{IsReached, Trace, finding_after}
use Rattle.trace_report.specs.Judging.{RanOut, is_read_fault}
use Rattle.trace_report.specs.Replayed.{Told}
use Rattle.trace_report.specs.Replaying.{cutting_of}
use Rattle.trace_report.proofs.TellsTextProperties.{ended_fault, ended_trace, fault_told, if_found}
use Rattle.trace_report.proofs.TellsTextProperties.{stood_answered}
use Rattle.trace_report.proofs.replayer.Replayer.finish.Goals as goal

pub returns-in-Err-clause-tells : goal.returns-in-Err-clause-tells
returns-in-Err-clause-tells g c says =
    let r = c.self.inside in
    rw (← c.self.view_is) (fault_told
    (g.W.Output.written c.args.writer.now) (g.W.Output.written c.tell_failure.new.writer)
    (λ whole. ended_fault r.fault (finding_after r.text.judge.limits r.text.judge.log
    (judged (cutting_of r.text.names r.lines) [])) c.in-Err.fault
    (λ none. (c.in-Err.ensures.fault none).finds whole)
    c.in-Err.ensures.answered) (c.tell_failure.ensures.tells says))

pub returns-in-Err-clause-read : goal.returns-in-Err-clause-read
returns-in-Err-clause-read g c =
    rw (← c.self.view_is) (if_found Summary (λ f. is_read_fault f ≡ true → c.self.inside.fault ≡ Some f)
    c.tell_failure.ensures.answers c.in-Err.ensures.whole)

pub returns-in-Err-clause-answered : goal.returns-in-Err-clause-answered
returns-in-Err-clause-answered g c =
    rw (← c.self.view_is) (stood_answered Summary c.self.inside.fault c.in-Err.fault
    c.tell_failure.ensures.answers c.in-Err.ensures.answered)

pub returns-in-Err-clause-memory : goal.returns-in-Err-clause-memory
returns-in-Err-clause-memory g c =
    let r = c.self.inside in
    rw (← c.self.view_is) (λ none.
    if_found Summary (λ f. RanOut f → IsReached r.text.judge.limits r.text.judge.log
    (judged (cutting_of r.text.names r.lines) []) f)
    c.tell_failure.ensures.answers (c.in-Err.ensures.fault none).reached)

pub tell_trace-answer-requires : goal.tell_trace-answer-requires
tell_trace-answer-requires g c =
    record { named = c.in_default.ensures.ok.named (c.self.invariant c.in_default.ensures.stands) }

pub returns-clause-tells : goal.returns-clause-tells
returns-clause-tells g c says =
    let r = c.self.inside in
    let written = g.W.Output.written in
    rw (← c.self.view_is) (subst (λ (found : Result Trace TraceFault). Told (written c.args.writer.now)
    (written c.tell_trace-answer.new.writer) found c.tell_trace-answer.result)
    (sym c.in_default.ensures.ok.finds
    ∙ sym (ended_trace r.fault (finding_after r.text.judge.limits r.text.judge.log
    (judged (cutting_of r.text.names r.lines) [])) c.in_default.ensures.stands))
    (c.tell_trace-answer.ensures.tells says))
