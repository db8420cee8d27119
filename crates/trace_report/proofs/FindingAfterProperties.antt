-- What a text comes to, line by line.
use Rattle.std.proofs.Common.{◌≡◌, ℕ, List, [], ◌∷◌, ◌++◌, true, false, Option, Some, None, Err}
use Rattle.std.proofs.Common.{refl, sym, ap, subst, ◌∙◌, inl, inr}
use Rattle.event_core.specs.declared.bounds.Limits.{Limits}
use Rattle.event_core.specs.declared.events.Event.{Event}
use Rattle.event_core.specs.declared.replies.Refusal.{Refusal}
use Rattle.event_core.specs.declared.replies.Refusal.TheVariants.{OutOfMemory}
use Rattle.event_core.specs.Refusal.{refusal, event_of}
use Rattle.seq_monitor.proofs.NeverMemory.{never_memory}
use Rattle.rapid_text.specs.Texts.{Judgement, with_event}
use Rattle.trace_report.specs.declared.faults.TraceFault.TheVariants.{Refused}
use Rattle.trace_report.specs.Findings.{call_of, refused_or, finding_after}
use Rattle.trace_report.specs.Replayed.{refusal_gives_up}
use Rattle.trace_report.specs.Judging.{Declines, Says}

-- ---- a judgement after a log

-- the log with the event of a line
abbrev pub with_line : List Event → Event → List Event
with_line log e = log ++ event_of log (call_of e) ∷ []

pub goes_on : (m : Limits) (log : List Event) (n : ℕ) (e : Event) (j : Judgement)
    → refusal m log (call_of e) ≡ None
    → finding_after m log (with_event n (Some e) j) ≡ finding_after m (with_line log e) j
goes_on m log n e j a = ap (λ (o : Option Refusal). refused_or n o (finding_after m (with_line log e) j)) a

pub is_refused : (m : Limits) (log : List Event) (n : ℕ) (e : Event) (r : Refusal) (j : Judgement)
    → refusal m log (call_of e) ≡ Some r → finding_after m log (with_event n (Some e) j) ≡ Err (Refused n r)
is_refused m log n e r j a = ap (λ (o : Option Refusal). refused_or n o (finding_after m
    (with_line log e) j)) a

-- the next event was not accepted
pub declined : (m : Limits) (log : List Event) (line n : ℕ) (e : Event) (r : Refusal) (rest j : Judgement)
    → j ≡ with_event n (Some e) rest → Declines m log e r → line ≡ n → Says m log j (Refused line r)
declined m log line n e r rest j is declines at =
    subst (λ (k : Judgement). Says m log k (Refused line r))
    (ap (λ (k : ℕ). with_event k (Some e) rest) at ∙ sym is)
    (record { finds = finds declines; reached = λ out. inl (refl, allowed declines out) })
  where
    allowed : Declines m log e r → r ≡ OutOfMemory → refusal m log (call_of e) ≡ None
    allowed (inl a) out = absurd (never_memory m log (call_of e)
        (a ∙ ap (λ (x : Refusal). let o : Option Refusal = Some x in o) out))
    allowed (inr both) out = both.1

    finds : Declines m log e r → refusal_gives_up r ≡ false
        → finding_after m log (with_event line (Some e) rest) ≡ Err (Refused line r)
    finds (inl a) g = is_refused m log line e r rest a
    finds (inr both) g = absurd (let bad : true ≡ false = sym (ap refusal_gives_up both.0) ∙ g in cc)
