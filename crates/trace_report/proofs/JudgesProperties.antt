-- Lines that are judged one after another: what the text comes to from them on, and where it stops.
use Rattle.std.proofs.Common.{◌≡◌, ℕ, ◌+◌, ◌<◌, List, ◌∷◌, ◌++◌, Option, Some, None, Result, Ok, Err}
use Rattle.std.proofs.Common.{length, false, inl, inr, subst, sym, ap, ◌∙◌, arith, refl}
use Rattle.std.specs.Prelude.{IfSome}
use Rattle.event_core.specs.declared.bounds.Limits.{Limits}
use Rattle.event_core.specs.declared.events.Event.{Event}
use Rattle.rapid_line.specs.declared.words.LineFault.TheVariants.{LineTooLong}
use Rattle.rapid_line.specs.Lines.{most_kept}
use Rattle.rapid_text.specs.declared.causes.Cause.{Cause}
use Rattle.rapid_text.specs.declared.causes.Cause.TheVariants as causes
use Rattle.rapid_text.specs.declared.causes.TextFault.{TextFault}
use Rattle.rapid_text.specs.Events.{content, reading, Fails, HasEvent, IsOfNames}
use Rattle.rapid_text.specs.Folds.{Folds, FaultAmong}
use Rattle.rapid_text.specs.Folds.Folds.{none, one_more}
use Rattle.rapid_text.specs.Tables.{Tables, TablesGrow}
use Rattle.rapid_text.specs.Texts.{Judgement, after_line, judge, with_event}
use Rattle.rapid_text.proofs.LongLines.{reading_long}
use Rattle.trace_report.specs.declared.faults.TraceFault.{TraceFault}
use Rattle.trace_report.specs.declared.faults.TraceFault.TheVariants.{Text, Refused}
use Rattle.trace_report.specs.Findings.{Trace, finding_after, IsReached}
use Rattle.trace_report.specs.Judging.{Accepts, HasFault, Judges, Says, Stops, is_read, is_read_fault}
use Rattle.trace_report.specs.Replayed.{cause_gives_up}
use Rattle.trace_report.specs.Reports.{AreNamed}
use Rattle.trace_report.proofs.AreNamedProperties.{named_kept, named_line}
use Rattle.trace_report.proofs.FindingAfterProperties.{with_line, goes_on, declined}

-- ---- a line that was judged

-- the judge is as after a longer log, and what follows comes to the same from it on
record Longer (m : Limits) (After : List Event → Type 0) (log : List Event) (names now : Tables)
    (o : Option Event) : Type 0 where
  longer : List Event
  after : After longer
  named : AreNamed names log → AreNamed now longer
  same : (n : ℕ) (j : Judgement) → finding_after m log (with_event n o j) ≡ finding_after m longer j
  reached : (n : ℕ) (j : Judgement) (f : TraceFault) → IsReached m longer j f
      → IsReached m log (with_event n o j) f

one_event : (m : Limits) (After : List Event → Type 0) (log : List Event) (names now : Tables)
    (o : Option Event) → TablesGrow names now → IfSome o (IsOfNames now) → Accepts m log o After
    → Longer m After log names now o
one_event m After log names now None grows named a = record {
  longer = log;
  after = a;
  named = named_kept names now log grows;
  same = λ n j. refl;
  reached = λ n j f h. h;
}
one_event m After log names now (Some e) grows named a = record {
  longer = with_line log e;
  after = a.1;
  named = λ h. named_line names now log e grows h named;
  same = λ n j. goes_on m log n e j a.0;
  reached = λ n j f h. inr (a.0, h);
}

-- what the first line comes to, and then the others
first_judged : (names : Tables) (n : ℕ) (line : List ℕ) (others : List (List ℕ))
    {r : Result (Option Event × Tables) Cause} → reading names (content line) ≡ r
    → judge (line ∷ others) names n ≡ after_line names n r (λ now. judge others now (n + 1))
first_judged names n line others is =
    ap (λ (r : Result (Option Event × Tables) Cause).
    after_line names n r (λ now. judge others now (n + 1))) is

-- ---- lines that were judged

-- whatever lines follow, the text comes to the same from this log on as they do from a longer one
pub record GoesOn (m : Limits) (After : List Event → Type 0) (log : List Event) (names now : Tables) (n k : ℕ)
    (lines : List (List ℕ)) : Type 0 where
  pub longer : List Event
  pub after : After longer
  pub named : AreNamed names log → AreNamed now longer
  pub same : (later : List (List ℕ))
      → finding_after m log (judge (lines ++ later) names n) ≡ finding_after m longer (judge later now k)
  pub reached : (later : List (List ℕ)) (f : TraceFault) → IsReached m longer (judge later now k) f
      → IsReached m log (judge (lines ++ later) names n) f

-- where memory ran out for its names, the line has an event, and is reached
names_reached : (m : Limits) (log : List Event) (names : Tables) (n : ℕ) (f : TextFault)
    (r : Result (Option Event × Tables) Cause) (go : Tables → Judgement) → f.line ≡ n → HasEvent r
    → IsReached m log (after_line names n r go) (Text f)
names_reached m log names n f (Err c) go at h = absurd h
names_reached m log names n f (Ok (None, u)) go at h = absurd cc
names_reached m log names n f (Ok (Some e, u)) go at h = inl (sym at)

its_own : (c : Cause) {r : Result (Option Event × Tables) Cause} → Fails c r → cause_gives_up c ≡ false
    → r ≡ Err c
its_own (causes.Line x) h g = h
its_own (causes.TooManyNames k) h g = h
its_own causes.OutOfMemory h g = absurd (cc)
its_own causes.Read h g = absurd (cc)
its_own causes.Failed h g = absurd h

not_read : (c : Cause) (r : Result (Option Event × Tables) Cause) → Fails c r → is_read c ≡ false
not_read causes.Read r h = absurd h
not_read _ r h = refl

-- a text does not stop at a line for a read that failed
pub stops_whole : (Before : Limits → List Event → Type 0) (names : Tables) (n : ℕ) (line : List ℕ)
    (f : TraceFault) → Stops Before names n line f → is_read_fault f ≡ false
stops_whole Before names n line (Text f) h = not_read f.cause _ h.why
stops_whole Before names n line (Refused k r) h = refl

-- a line that is too long has that fault
pub long_stops : (names : Tables) (n : ℕ) (line : List ℕ) → most_kept < length line
    → HasFault names n line (record { line = n; cause = causes.Line LineTooLong })
long_stops names n line h =
    record { at = refl; why = reading_long names line h; memory = λ out. absurd (cc) }

-- a text that stops at its first line
stop_says : (m : Limits) (Before : Limits → List Event → Type 0) (log : List Event) (names : Tables) (n : ℕ)
    (line : List ℕ) (others : List (List ℕ)) (f : TraceFault) → Before m log → Stops Before names n line f
    → Says m log (judge (line ∷ others) names n) f
stop_says m Before log names n line others (Text f) a h = record {
  finds = λ g.
      ap (finding_after m log) (first_judged names n line others (its_own f.cause h.why g))
      ∙ ap (λ (k : ℕ).
      let r : Result Trace TraceFault = Err (Text (record { line = k; cause = f.cause })) in r) (sym h.at);
  reached = λ out. names_reached m log names n f (reading names (content line))
      (λ now. judge others now (n + 1)) h.at (h.memory out);
}
stop_says m Before log names n line others (Refused k r) a h =
    declined m log k n h.event r (judge others h.now (n + 1)) (judge (line ∷ others) names n)
    (first_judged names n line others h.reads) (h.declines m log a) h.at

-- lines are judged by steps between what holds names and a judge
module _ {S : Type 0} (names : S → Tables) (After : S → Limits → List Event → Type 0) where
  abbrev pub Step : S → ℕ → List ℕ → S → Type 0
  Step s n line t = Judges (After s) (After t) (names s) line (names t)

  abbrev pub Stop : S → ℕ → List ℕ → TraceFault → Type 0
  Stop s n line f = Stops (After s) (names s) n line f

  module _ (m : Limits) where
    pub lines_go_on : (n k : ℕ) (s t : S) (lines : List (List ℕ)) (log : List Event) → Folds Step n s lines t
        → k ≡ n + length lines → After s m log
        → GoesOn m (After t m) log (names s) (names t) n k lines
    lines_go_on n k s t _ log none at a = record {
      longer = log;
      after = a;
      named = λ h. h;
      same = λ later. ap (λ (i : ℕ). finding_after m log (judge later (names s) i)) (omega (arith, at));
      reached = λ later f h.
          subst (λ (i : ℕ). IsReached m log (judge later (names s) i) f) (omega (arith, at)) h;
    }
    lines_go_on n k s t _ log (one_more {t = u} {line = line} {lines = ls} h rest) at a =
        let one = one_event m (After u m) log (names s) (names u) h.event h.grows h.named
        (h.accepts m log a) in
        let on = lines_go_on (n + 1) k u t ls one.longer rest (omega (arith, at)) one.after in
        record {
          longer = on.longer;
          after = on.after;
          named = λ named. on.named (one.named named);
          same = λ later.
              ap (finding_after m log) (first_judged (names s) n line (ls ++ later) h.reads)
              ∙ one.same n (judge (ls ++ later) (names u) (n + 1)) ∙ on.same later;
          reached = λ later f r. subst (λ (j : Judgement). IsReached m log j f)
              (sym (first_judged (names s) n line (ls ++ later) h.reads))
              (one.reached n (judge (ls ++ later) (names u) (n + 1)) f (on.reached later f r));
        }

    -- the text stops at one of its lines
    pub fault_says : (n : ℕ) (s : S) (lines : List (List ℕ)) (f : TraceFault) (log : List Event)
        → FaultAmong Step Stop n s lines f → After s m log → Says m log (judge lines (names s) n) f
    fault_says n s lines f log h a =
        let place : ℕ = n + length h.front in
        let on = lines_go_on n place s h.before h.front log h.folds refl a in
        let later : List (List ℕ) = h.line ∷ h.others in
        let stop = stop_says m (After h.before) on.longer (names h.before) place h.line h.others f on.after
        h.stops in
        let is = ap (λ (ls : List (List ℕ)). judge ls (names s) n) h.is in
        record {
          finds = λ g. ap (finding_after m log) is ∙ on.same later ∙ stop.finds g;
          reached = λ out. subst (λ (j : Judgement). IsReached m log j f) (sym is)
              (on.reached later f (stop.reached out));
        }
