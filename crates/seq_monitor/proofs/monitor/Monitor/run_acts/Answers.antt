use Rattle.std.proofs.Common.{sym, ◌∙◌, refl, arith}
use Rattle.std.proofs.lemmas.List.{take_more}
use Rattle.std.proofs.lemmas.Option.{slice_get-get_or}
use Rattle.event_core.specs.Acts.{IsActRun, IsDone, log_after_act}
use Rattle.seq_monitor.proofs.RunAnswersProperties.{act_run_more, ran_more, where_err, no_room, ran_none}
use Rattle.seq_monitor.proofs.RunAnswersProperties.{ran_some, ran_all}
use Rattle.seq_monitor.proofs.monitor.Monitor.run_acts.Goals as goal

pub loop-act-preserved : goal.loop-act-preserved
loop-act-preserved c =
    ran_more IsActRun IsDone log_after_act act_run_more c.loop-act.invariant c.in_ok-done.ensures.done
    (take_more c.args.acts.now c.loop-act.act-index _ c.loop-act-test.true) c.push_reserved.ensures.items
    c.in_ok-done.ensures.log c.take_act.ensures.limits c.take_act.ensures.work
    (omega (arith, c.push_reserved.ensures.len, c.push_reserved.ensures.capacity))

pub returns-then-is_err-clause-some : goal.returns-then-is_err-clause-some
returns-then-is_err-clause-some c =
    ran_none _ _ _ c.args.acts.now refl
    (no_room c.reserve.result _ _ _ c.args.answers.now.ok.1 c.reserve.ensures.full
    (sym c.is_err.ensures.value ∙ c.if-is_err.true)) c.reserve.ensures.items

pub returns-in_err-done-clause-some : goal.returns-in_err-done-clause-some
returns-in_err-done-clause-some c =
    where_err c.from_residual.result
    (ran_some IsActRun (λ act. act) _ c.loop-act.invariant
    (slice_get-get_or c.args.acts.now c.loop-act.act-index _ c.loop-act-test.true)
    c.in_err-done.ensures.memory c.in_err-done.ensures.same)

pub returns-clause-all : goal.returns-clause-all
returns-clause-all c = ran_all IsActRun c.loop-act.invariant c.loop-act-test.false
