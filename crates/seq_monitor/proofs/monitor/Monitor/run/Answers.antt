use Rattle.std.proofs.Common.{sym, ◌∙◌, refl, arith}
use Rattle.std.proofs.lemmas.List.{take_more}
use Rattle.std.proofs.lemmas.Option.{slice_get-get_or}
use Rattle.event_core.specs.declared.events.Act.TheVariants.{One}
use Rattle.event_core.specs.Verdict.{IsOutcome, IsRun, log_after}
use Rattle.seq_monitor.proofs.RunAnswersProperties.{run_more, ran_more, where_err, no_room, ran_none}
use Rattle.seq_monitor.proofs.RunAnswersProperties.{ran_some, ran_all}
use Rattle.seq_monitor.proofs.monitor.Monitor.run.Goals as goal

pub loop-call-preserved : goal.loop-call-preserved
loop-call-preserved c =
    ran_more IsRun IsOutcome log_after run_more c.loop-call.invariant c.in_ok-outcome.ensures.outcome
    (take_more c.args.calls.now c.loop-call.call-index _ c.loop-call-test.true) c.push_reserved.ensures.items
    c.in_ok-outcome.ensures.log c.take.ensures.limits c.take.ensures.work
    (omega (arith, c.push_reserved.ensures.len, c.push_reserved.ensures.capacity))

pub returns-then-is_err-clause-some : goal.returns-then-is_err-clause-some
returns-then-is_err-clause-some c =
    ran_none _ _ _ c.args.calls.now refl
    (no_room c.reserve.result _ _ _ c.args.outcomes.now.ok.1 c.reserve.ensures.full
    (sym c.is_err.ensures.value ∙ c.if-is_err.true)) c.reserve.ensures.items

pub returns-in_err-outcome-clause-some : goal.returns-in_err-outcome-clause-some
returns-in_err-outcome-clause-some c =
    where_err c.from_residual.result
    (ran_some IsRun One _ c.loop-call.invariant
    (slice_get-get_or c.args.calls.now c.loop-call.call-index _ c.loop-call-test.true)
    c.in_err-outcome.ensures.memory c.in_err-outcome.ensures.same)

pub returns-clause-all : goal.returns-clause-all
returns-clause-all c = ran_all IsRun c.loop-call.invariant c.loop-call-test.false
