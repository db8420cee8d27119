-- A log whose numbers have names, and one event more.
use Rattle.std.proofs.Common.{List, []}
use Rattle.event_core.specs.declared.events.Event.{Event}
use Rattle.event_core.specs.Refusal.{event_of}
use Rattle.event_core.proofs.Places.{each_push}
use Rattle.rapid_text.specs.Tables.{Tables, TablesGrow}
use Rattle.rapid_text.specs.Events.{HasNames, IsOfNames}
use Rattle.rapid_text.proofs.NameGrowth.{HasNames-kept}
use Rattle.trace_report.specs.Reports.{AreNamed}
use Rattle.trace_report.specs.Findings.{call_of}
use Rattle.trace_report.proofs.FindingAfterProperties.{with_line}

-- names that were added change nothing
pub named_kept : (t u : Tables) (log : List Event) → TablesGrow t u → AreNamed t log → AreNamed u log
named_kept t u log g h j e at = HasNames-kept t u e g (h j e at)

-- the event of a line is the one that its call makes
pub named_line : (t u : Tables) (log : List Event) (e : Event) → TablesGrow t u → AreNamed t log
    → IsOfNames u e
    → AreNamed u (with_line log e)
named_line t u log e g h k =
    let n = k.names in
    each_push (HasNames u) log (event_of log (call_of e)) (named_kept t u log g h)
    (record { thread = n.thread; target = n.target; site = n.site })

pub nothing_named : (t : Tables) → AreNamed t []
nothing_named t j e at = absurd (cc)
