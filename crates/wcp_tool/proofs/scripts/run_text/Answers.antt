use Rattle.std.proofs.Common.{subst, inr}
use Rattle.event_core.specs.declared.bounds.Limits.{Limits}
use Rattle.wcp_tool.specs.Endings.{status_of}
use Rattle.wcp_tool.specs.Running.{PerformsRun}
use Rattle.wcp_tool.proofs.ScriptReads.{truncates_script, fault_told}
use Rattle.wcp_tool.proofs.scripts.run_text.Goals as goal

pub returns-in-Ok-clause-performs : goal.returns-in-Ok-clause-performs
returns-in-Ok-clause-performs g c =
    let run = c.run_threads-ending.ensures in
    let ok = c.in-Ok.ensures in
    subst (λ (m : Limits). PerformsRun m (g.I.Input.left c.args.script.now)
    (g.O.Output.written c.args.writer.now)
    (g.O.Output.written c.run_threads-ending.new.writer) (status_of c.run_threads-ending.result))
    c.limits_of-limits.ensures
    (record {
      ran = λ h. record { script = c.in-Ok.script; is_of = ok.ok; is = ok.script; holds = run.ran h };
      refused = λ h. record { script = c.in-Ok.script; is_of = ok.ok; is = ok.script; holds = run.refused h };
      broken = λ h. inr (record {
        script = c.in-Ok.script;
        is_of = ok.ok;
        is = ok.script;
        holds = run.broken h;
      });
    })

pub returns-in-Err-clause-performs : goal.returns-in-Err-clause-performs
returns-in-Err-clause-performs g c =
    let told = c.explain_script.ensures in
    subst (λ (m : Limits). PerformsRun m (g.I.Input.left c.args.script.now)
    (g.O.Output.written c.args.writer.now)
    (g.O.Output.written c.explain_script.new.writer) (status_of c.explain_script.result))
    c.limits_of-limits.ensures
    (fault_told _ _ _ _ _ _ _ _ told.tells told.hindered c.in-Err.ensures.fault)

pub returns-in-Err-clause-truncated : goal.returns-in-Err-clause-truncated
returns-in-Err-clause-truncated g c h =
    truncates_script _ _ _ _ _ _ c.limits_of-limits.ensures
    (c.explain_script.ensures.truncated h) c.in-Err.ensures.fault
