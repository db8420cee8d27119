-- A trace that was not read to its end.
use Rattle.std.proofs.Common.{◌≡◌, ℕ, List, Option, Bool, true, Result, Ok, Err, subst}
use Rattle.std.specs.Prelude.{IsErrAnd}
use Rattle.event_core.specs.declared.bounds.Limits.{Limits}
use Rattle.rapid_text.specs.Turns.{most_turns}
use Rattle.trace_report.specs.declared.faults.ReplayFault.{ReplayFault}
use Rattle.trace_report.specs.declared.faults.ReplayFault.TheVariants.{Text, Refused, Write}
use Rattle.trace_report.specs.declared.faults.TraceFault.TheVariants as found
use Rattle.trace_report.specs.Judging.{HasRead, IsTruncatedAt}
use Rattle.wcp_tool.specs.Endings.{is_unread}
use Rattle.wcp_tool.specs.Running.{IsUnread, TruncatesTrace}

-- an answer of a check or a replay that the text was not read to its end
pub trace_cut : {A : Type 0} (m n : Limits) (left rest : Option (List ℕ)) (failed : Bool)
    (before after : Option ℕ) (answer : Result A ReplayFault) → m ≡ n
    → HasRead m left rest most_turns failed before after answer
    → IsErrAnd answer (λ f. is_unread f ≡ true) → TruncatesTrace n left rest (IsUnread failed before after)
trace_cut m n left rest failed before after (Ok a) same reads unread = absurd unread
trace_cut m n left rest failed before after (Err (Text f)) same reads unread = record {
  fault = found.Text f;
  is = subst (λ (l : Limits). IsTruncatedAt l left rest (IsUnread failed before after) (found.Text f)) same
      (reads.truncated unread);
}
trace_cut m n left rest failed before after (Err (Refused line r)) same reads unread = absurd (cc)
trace_cut m n left rest failed before after (Err Write) same reads unread = absurd (cc)
