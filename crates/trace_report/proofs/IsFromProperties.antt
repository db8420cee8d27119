-- Lines from a number on have no fault before it.
use Rattle.std.proofs.Common.{ℕ, ◌+◌, List, [], ◌∷◌, Option, Some, None, Result, Ok, Err, arith, ◌≤◌}
use Rattle.std.specs.Prelude.{IfErr}
use Rattle.event_core.specs.declared.bounds.Limits.{Limits}
use Rattle.event_core.specs.declared.events.Event.{Event}
use Rattle.event_core.specs.declared.replies.Refusal.{Refusal}
use Rattle.event_core.specs.Refusal.{refusal}
use Rattle.rapid_line.specs.Cut.{content}
use Rattle.rapid_text.specs.declared.causes.Cause.{Cause}
use Rattle.rapid_text.specs.Events.{reading}
use Rattle.rapid_text.specs.Tables.{Tables}
use Rattle.rapid_text.specs.Texts.{after_line, judge}
use Rattle.trace_report.specs.declared.faults.TraceFault.{TraceFault}
use Rattle.trace_report.specs.Findings.{Trace, call_of, finding_after, refused_or}
use Rattle.trace_report.specs.Judging.{line_of}
use Rattle.trace_report.proofs.FindingAfterProperties.{with_line}

-- no fault before line n
abbrev pub IsFrom : ℕ → Result Trace TraceFault → Type 0
IsFrom n found = IfErr found (λ f. n ≤ line_of f)

from_next : (n : ℕ) (found : Result Trace TraceFault) → IsFrom (n + 1) found → IsFrom n found
from_next n (Ok t) later = tt
from_next n (Err f) later = omega (arith, later)

-- lines from number n on have no fault before line n
pub from_line : (m : Limits) (log : List Event) (lines : List (List ℕ)) (t : Tables) (n : ℕ)
    → IsFrom n (finding_after m log (judge lines t n))
from_line m log [] t n = tt
from_line m log (l ∷ ls) t n =
    go (reading t (content l)) (λ longer u. from_next n _ (from_line m longer ls u (n + 1)))
  where
    Later : Type 0
    Later = (longer : List Event) (u : Tables) → IsFrom n (finding_after m longer (judge ls u (n + 1)))

    refused : (e : Event) (u : Tables) (o : Option Refusal) → Later
        → IsFrom n (refused_or n o (finding_after m (with_line log e) (judge ls u (n + 1))))
    refused e u None later = later (with_line log e) u
    refused e u (Some r) later = omega arith

    go : (r : Result (Option Event × Tables) Cause) → Later
        → IsFrom n (finding_after m log (after_line t n r (λ u. judge ls u (n + 1))))
    go (Err cause) later = omega arith
    go (Ok (None, u)) later = later log u
    go (Ok (Some e, u)) later = refused e u (refusal m log (call_of e)) later
