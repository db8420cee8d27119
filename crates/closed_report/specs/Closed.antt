-- What the report of a closed log is.
use Rattle.std.specs.Prelude.{◌≡◌, ℕ, List, Option}
use Rattle.std.specs.Io.KnownBytes.{Appends}
use Rattle.event_core.specs.declared.events.Event.{Event}
use Rattle.event_core.specs.declared.replies.Verdict.{Verdict}
use Rattle.rapid_text.specs.Tables.{Tables}
use Rattle.seq_monitor.specs.Monitored.{AreVerdicts}
use Rattle.trace_report.specs.Reports.{AreNamed, report_of, summary_of}
use Rattle.trace_report.specs.declared.summary.Summary.{Summary}

-- the report of this log was written, with the definition's verdict on each event, and this is its summary
pub record IsReportOf (names : Tables) (log : List Event) (old new : Option (List ℕ)) (summary : Summary)
    : Type 0 where
  pub verdicts : List Verdict
  pub judged : AreVerdicts log verdicts
  pub named : AreNamed names log
  pub written : Appends old new (report_of names log verdicts)
  pub summary_is : summary ≡ summary_of names log verdicts
