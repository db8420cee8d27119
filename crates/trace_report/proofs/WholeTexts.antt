-- What a text comes to whose lines were all judged, or up to the one at which it stops.
use Rattle.std.proofs.Common.{◌≡◌, ℕ, ◌+◌, List, [], ◌++◌, Option, Some, None, Result, length}
use Rattle.std.proofs.Common.{append-nil, refl, sym, ap, subst, ◌∙◌, true}
use Rattle.event_core.specs.declared.bounds.Limits.{Limits}
use Rattle.event_core.specs.declared.events.Event.{Event}
use Rattle.rapid_line.specs.Lines.{lines_of}
use Rattle.rapid_text.specs.declared.causes.Cause.TheVariants.{Read}
use Rattle.rapid_text.specs.Feeding.{FoldsEnded, OfText}
use Rattle.rapid_text.specs.Folds.{FoldsAll, FaultIn}
use Rattle.rapid_text.specs.Taking.{Truncates}
use Rattle.rapid_text.specs.Tables.{Tables, no_names}
use Rattle.rapid_text.specs.Texts.{judge}
use Rattle.trace_report.specs.declared.faults.TraceFault.{TraceFault}
use Rattle.trace_report.specs.declared.faults.TraceFault.TheVariants.{Text}
use Rattle.trace_report.specs.Findings.{Trace, finding, finding_after}
use Rattle.trace_report.specs.Judging.{Says, FindsTrace, FindsFault, IsTruncatedAt, is_read_fault}
use Rattle.trace_report.proofs.AreNamedProperties.{nothing_named}
use Rattle.trace_report.proofs.JudgesProperties.{Step, Stop, lines_go_on, fault_says, stops_whole}
use Rattle.trace_report.proofs.IsFromProperties.{IsFrom, from_line}

-- a read that failed says nothing of the text
pub cut_says_nothing : (m : Limits) (left : Option (List ℕ)) (n : ℕ)
    → FindsFault m left (Text (record { line = n; cause = Read }))
cut_says_nothing m None n =
    record { text = []; is_left = tt; finds = λ g. absurd (cc); reached = λ out. absurd (cc) }
cut_says_nothing m (Some text) n =
    record { text = text; is_left = refl; finds = λ g. absurd (cc); reached = λ out. absurd (cc) }

module _ {S : Type 0} (names : S → Tables) (After : S → Limits → List Event → Type 0) (m : Limits) (s : S)
    (first : names s ≡ no_names m) (begins : After s m []) where
  pub trace_found : {left : Option (List ℕ)} (t : S)
      → OfText left (λ text. FoldsAll (Step names After) s text t) → FindsTrace m left (After t m) (names t)
  unfolding finding
  trace_found t h =
      let lines = lines_of h.text in
      let on = lines_go_on names After m 1 (1 + length lines) s t lines [] h.holds refl begins in
      record {
        text = h.text;
        is_left = h.is_left;
        log = on.longer;
        after = on.after;
        named = on.named (nothing_named (names s));
        finds = ap (λ (u : Tables). finding_after m [] (judge lines u 1)) (sym first)
            ∙ ap (λ (ls : List (List ℕ)). finding_after m [] (judge ls (names s) 1)) (sym (append-nil lines))
            ∙ on.same [];
      }

  pub fault_found : {left : Option (List ℕ)} (f : TraceFault)
      → OfText left (λ text. FaultIn (Step names After) (Stop names After) s text f) → FindsFault m left f
  unfolding finding
  fault_found f h =
      let says = subst (λ (u : Tables). Says m [] (judge (lines_of h.text) u 1) f) first
      (fault_says names After m 1 s (lines_of h.text) f [] h.holds begins) in
      record { text = h.text; is_left = h.is_left; finds = says.finds; reached = says.reached }

  -- it is no fault of a read
  pub fault_whole : {left rest : Option (List ℕ)} {Why : List ℕ → Type 0} (f : TraceFault)
      → OfText left (λ text. FaultIn (Step names After) (Stop names After) s text f)
      → is_read_fault f ≡ true → IsTruncatedAt m left rest Why f
  fault_whole f h read =
      let k = h.holds in
      let whole = stops_whole (After k.before) (names k.before) (1 + length k.front) k.line f k.stops in
      absurd cc

  -- the text was not read to its end
  pub truncated_text : {left rest : Option (List ℕ)} {Why : List ℕ → Type 0} (n : ℕ) (t : S)
      → Truncates left rest Why n (λ came. FoldsEnded (Step names After) s came n t)
      → IsTruncatedAt m left rest Why (Text (record { line = n; cause = Read }))
  unfolding finding
  truncated_text n t h =
      let so = h.so in
      let on = lines_go_on names After m 1 n s t so.ended [] so.folds so.next begins in
      record {
        line = n;
        at = refl;
        stops = record {
          came = h.came;
          bytes = h.bytes;
          why = h.why;
          at = h.at;
          short = h.short;
          so = λ more.
              let later = so.law more in
              subst (λ (found : Result Trace TraceFault). IsFrom n found)
              (sym (ap (λ (u : Tables). finding_after m [] (judge (lines_of (h.came ++ more)) u 1))
              (sym first) ∙ ap (λ (ls : List (List ℕ)). finding_after m [] (judge ls (names s) 1)) later.1
              ∙ on.same later.0))
              (from_line m on.longer later.0 (names t) n);
        };
      }
