use Rattle.std.proofs.Common.{rules, subst, sym}
use Rattle.rapid_text.specs.Tables.{Tables}
use Rattle.trace_report.specs.Reports.{AreNamed}
use Rattle.wcp_tool.specs.Endings.{status_of}
use Rattle.wcp_tool.specs.ScriptRuns.{ReportsLog}
use Rattle.wcp_tool.proofs.RunNames.{run_named}
use Rattle.wcp_tool.proofs.ScriptReads.{refusal_told, stop_told}
use Rattle.wcp_tool.proofs.scripts.run_threads.Goals as goal

pub returns-in-Ok-clause-ran : goal.returns-in-Ok-clause-ran
returns-in-Ok-clause-ran g c h = record {
  log = c.in-Ok.closed.log;
  is = record {
    well_formed = c.in-Ok.ensures.well_formed;
    run = c.in-Ok.ensures.run;
    first = c.in-Ok.ensures.main;
    joined = c.in-Ok.ensures.joined;
    unjoined = c.in-Ok.ensures.unjoined;
  };
  reports = subst (λ (t : Tables). ReportsLog t c.in-Ok.closed.log (g.O.Output.written c.args.writer.now)
      (g.O.Output.written c.tell_report-ending.new.writer) (status_of c.tell_report-ending.result))
      c.names.ensures
      (c.tell_report-ending.ensures.reports h);
}

pub returns-in-Err-clause-refused : goal.returns-in-Err-clause-refused
returns-in-Err-clause-refused g c h =
    refusal_told _ _ _ c.in-Err.fault _ _ c.in-Err.ensures.fault (c.explain_drive.ensures.refused h)

-- each number of the log has a name, so it is reported
pub returns-in-Ok-clause-broken : goal.returns-in-Ok-clause-broken
returns-in-Ok-clause-broken g c h =
    let log = c.in-Ok.closed.log in
    let named = run_named c.args.script.now log c.requires.script c.in-Ok.ensures.run in
    absurd (c.tell_report-ending.ensures.broken h
    (subst (λ (t : Tables). AreNamed t log) (sym c.names.ensures) named))

pub returns-in-Err-clause-broken : goal.returns-in-Err-clause-broken
returns-in-Err-clause-broken g c h =
    stop_told _ _ _ c.in-Err.fault _ _ (search rules) c.in-Err.ensures.fault
    (c.explain_drive.ensures.broken h)
