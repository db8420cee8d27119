-- What a piece of a text, and its end, do to the log of a monitor.
use Rattle.std.proofs.Common.{◌≡◌, ◌∙◌, ℕ, ◌+◌, List, [], length, append-nil, Result, Ok, false}
use Rattle.std.proofs.Common.{ap, refl, subst, sym}
use Rattle.event_core.specs.declared.bounds.Limits.{Limits}
use Rattle.event_core.specs.declared.events.Event.{Event}
use Rattle.rapid_line.specs.Lines.{Lines, to_come}
use Rattle.rapid_text.specs.Cutting.{judged}
use Rattle.rapid_text.specs.Feeding.{Takes}
use Rattle.rapid_text.specs.Folds.{Folds, FaultAmong}
use Rattle.rapid_text.specs.Texts.{judge}
use Rattle.seq_monitor.specs.declared.monitor.Monitor.{Monitor}
use Rattle.trace_report.specs.declared.faults.TraceFault.{TraceFault}
use Rattle.trace_report.specs.declared.judged_text.JudgedText.{JudgedText}
use Rattle.trace_report.specs.Findings.{Trace, finding_after}
use Rattle.trace_report.specs.Judging.{Says, is_read_fault}
use Rattle.trace_report.specs.Replaying.{EndsLegal, TakesPiece, cutting_of}
use Rattle.trace_report.specs.Reports.{AreNamed}
use Rattle.rapid_text.specs.Tables.{Tables}
use Rattle.trace_report.proofs.JudgesProperties.{Step, Stop, fault_says, lines_go_on, stops_whole}

abbrev pub Text : Type 0
Text = JudgedText Monitor

abbrev pub names_of : Text → Tables
names_of t = t.names

-- the monitor has these limits and this log
abbrev pub IsAfter : Text → Limits → List Event → Type 0
IsAfter t m log = (t.judge.limits ≡ m) × (t.judge.log ≡ log)

module _ (s : Text) (c : Lines) where
  pub piece_taken : (t : Text) (d : Lines) (piece : List ℕ)
      → Takes (Step names_of IsAfter) s c piece [] t d
      → TakesPiece s.judge.limits s.judge.log (cutting_of s.names c) piece t.judge.limits t.judge.log
      (cutting_of t.names d)
  piece_taken t d piece p =
      let on = lines_go_on names_of IsAfter s.judge.limits c.unfinished d.unfinished s t p.ended s.judge.log
      p.folds p.number (refl, refl) in
      record {
        limits = on.after.0;
        named = λ h. subst (λ (l : List Event). AreNamed t.names l) (sym on.after.1) (on.named h);
        same = λ more.
            let later = judged (cutting_of t.names d) more in
            ap (λ (k : Limits). finding_after k t.judge.log later) on.after.0
            ∙ ap (λ (l : List Event). finding_after s.judge.limits l later) on.after.1
            ∙ sym (ap (λ (ls : List (List ℕ)).
            finding_after s.judge.limits s.judge.log (judge ls s.names c.unfinished)) (p.law more)
            ∙ on.same (to_come d more));
        advances = p.advances;
      }

  pub lines_stop : (lines : List (List ℕ)) (f : TraceFault)
      → FaultAmong (Step names_of IsAfter) (Stop names_of IsAfter) c.unfinished s lines f
      → Says s.judge.limits s.judge.log (judge lines s.names c.unfinished) f
  lines_stop lines f h =
      fault_says names_of IsAfter s.judge.limits c.unfinished s lines f s.judge.log h (refl, refl)

  pub lines_whole : (lines : List (List ℕ)) (f : TraceFault)
      → FaultAmong (Step names_of IsAfter) (Stop names_of IsAfter) c.unfinished s lines f
      → is_read_fault f ≡ false
  lines_whole lines f h =
      stops_whole (IsAfter h.before) h.before.names (c.unfinished + length h.front) h.line f h.stops

  pub text_ended : (t : Text) → Folds (Step names_of IsAfter) c.unfinished s (to_come c []) t
      → EndsLegal s.judge.limits s.judge.log (cutting_of s.names c) t.names t.judge.log
  text_ended t h =
      let lines = to_come c [] in
      let on = lines_go_on names_of IsAfter s.judge.limits c.unfinished (c.unfinished + length lines) s t
      lines s.judge.log h refl (refl, refl) in
      record {
        named = λ named. subst (λ (l : List Event). AreNamed t.names l) (sym on.after.1) (on.named named);
        finds = ap (λ (ls : List (List ℕ)).
            finding_after s.judge.limits s.judge.log (judge ls s.names c.unfinished)) (sym (append-nil lines))
            ∙ on.same []
            ∙ ap (λ (l : List Event).
            let r : Result Trace TraceFault = Ok (record { names = t.names; log = l }) in r) (sym on.after.1);
      }
