-- What a check answers and prints, in terms of what the text comes to.
use Rattle.std.specs.Prelude.{◌≡◌, ℕ, List, [], ◌∷◌, ◌++◌, Option, Result, Ok, Err, codes, length}
use Rattle.std.specs.Io.KnownBytes.{Appends}
use Rattle.event_core.specs.declared.bounds.Limits.{Limits}
use Rattle.rapid_text.specs.Feeding.{OfText}
use Rattle.rapid_text.specs.Tables.{Tables}
use Rattle.trace_report.specs.declared.faults.ReplayFault.{ReplayFault}
use Rattle.trace_report.specs.declared.faults.ReplayFault.TheVariants.{Text, Refused, Write}
use Rattle.trace_report.specs.declared.faults.TraceFault.{TraceFault}
use Rattle.trace_report.specs.declared.faults.TraceFault.TheVariants as found
use Rattle.trace_report.specs.declared.counts.Counts.{Counts}
use Rattle.trace_report.specs.Findings.{Trace, finding}
use Rattle.trace_report.specs.Replayed.{fault_text, replay_fault}
use Rattle.trace_report.specs.Reports.{labelled}

-- so many events, and how many names there are of each kind
abbrev pub counts_of : ℕ → Tables → Counts
counts_of events t = record {
  events = events;
  threads = length t.threads.names;
  locks = length t.locks.names;
  vars = length t.variables.names;
}

-- the counts of a legal trace, or the fault
abbrev pub counted : Result Trace TraceFault → Result Counts ReplayFault
counted (Ok t) = Ok (counts_of (length t.log) t.names)
counted (Err f) = Err (replay_fault f)

-- events E threads T locks L variables V
abbrev pub counts_text : Counts → List ℕ
counts_text c =
    labelled (codes "events ") c.events
    ++ labelled (codes " threads ") c.threads
    ++ labelled (codes " locks ") c.locks
    ++ labelled (codes " variables ") c.vars

-- and an LF
abbrev pub counts_line : Counts → List ℕ
counts_line c = counts_text c ++ 10 ∷ []

-- the one line that tells an answer
abbrev pub told : Result Counts ReplayFault → List ℕ
told (Ok counts) = counts_line counts
told (Err (Text f)) = fault_text (found.Text f)
told (Err (Refused line r)) = fault_text (found.Refused line r)
told (Err Write) = []

-- the answer is the one for the text that the reader had left, and its one line was written, and nothing else
abbrev pub ChecksText : Limits → Option (List ℕ) → Option (List ℕ) → Option (List ℕ)
    → Result Counts ReplayFault → Type 0
ChecksText m left old new answer =
    OfText left (λ text. (answer ≡ counted (finding m text)) × Appends old new (told answer))
