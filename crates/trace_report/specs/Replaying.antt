-- A text that is replayed in pieces: what a replayer holds, and what its text would come to.
use Rattle.std.specs.Prelude.{◌≡◌, ℕ, List, [], ◌++◌, Option, Some, None, Result, Ok, Err}
use Rattle.event_core.specs.declared.bounds.Limits.{Limits}
use Rattle.event_core.specs.declared.events.Event.{Event}
use Rattle.rapid_line.specs.Lines.{Lines}
use Rattle.rapid_text.specs.Cutting.{Cutting, begun, judged}
use Rattle.rapid_text.specs.Tables.{Tables}
use Rattle.rapid_text.specs.Taking.{Advances, cutter_place}
use Rattle.trace_report.specs.declared.faults.TraceFault.{TraceFault}
use Rattle.trace_report.specs.Findings.{Trace, finding_after, IsReached}
use Rattle.trace_report.specs.Reports.{AreNamed}

-- the names, the unfinished line and its number, the log, and the first fault
pub record Replaying : Type 0 where
  pub text : Cutting
  pub limits : Limits
  pub log : List Event
  pub fault : Option TraceFault

-- before the first byte
abbrev pub unfed : Limits → Replaying
unfed m = record { text = begun m; limits = m; log = []; fault = None }

abbrev pub fault_or : Option TraceFault → Result Trace TraceFault → Result Trace TraceFault
fault_or None later = later
fault_or (Some f) later = Err f

-- what the text comes to if these bytes follow, and then no more
abbrev pub after : Replaying → List ℕ → Result Trace TraceFault
after r more = fault_or r.fault (finding_after r.limits r.log (judged r.text more))

-- the line of the fault has an event if these bytes follow, and memory ran out at it; no event of a line
-- before is refused
abbrev pub ReachesIn : Replaying → List ℕ → TraceFault → Type 0
ReachesIn r more f = IsReached r.limits r.log (judged r.text more) f

-- the names, and what a cutter holds of the lines
abbrev pub cutting_of : Tables → Lines → Cutting
cutting_of names lines = record {
  names = names;
  line = 0;
  unfinished = lines.unfinished;
  kept = lines.kept;
  taken = lines.taken;
  failed = None;
}

-- a piece was taken by a judge with these limits and this log: whatever follows, the text comes to the same
pub record TakesPiece (m : Limits) (log : List Event) (old : Cutting) (piece : List ℕ) (now : Limits)
    (longer : List Event) (new : Cutting) : Type 0 where
  pub limits : now ≡ m
  pub named : AreNamed old.names log → AreNamed new.names longer
  pub same : (more : List ℕ)
      → finding_after now longer (judged new more) ≡ finding_after m log (judged old (piece ++ more))
  pub advances : Advances (cutter_place old) piece [] (cutter_place new)

-- the text ended, and is legal
pub record EndsLegal (m : Limits) (log : List Event) (old : Cutting) (names : Tables) (longer : List Event)
    : Type 0 where
  pub named : AreNamed old.names log → AreNamed names longer
  pub finds : finding_after m log (judged old []) ≡ Ok (record { names = names; log = longer })
