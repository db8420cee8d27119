use Rattle.std.proofs.Common.{ℕ, List}
use Rattle.event_core.specs.declared.bounds.Limits.{Limits}
use Rattle.rapid_text.specs.Tables.{no_names}
use Rattle.rapid_text.specs.Texts.{judgement, lines_of}
use Rattle.trace_report.specs.Findings.{finding, log_of}
use Rattle.trace_report.proofs.FindingProperties.{found_legal, found_fault, found_refused}
use Rattle.trace_report.proofs.Values.{StoreNothing, judged_nothing}
use Rattle.trace_report.proofs.laws.finding_is_the_first.Goals as goal

nothing : (m : Limits) (text : List ℕ) → StoreNothing (log_of (judgement (no_names m) text).events)
nothing m text = judged_nothing (lines_of text) (no_names m) 1

pub returns : goal.returns
unfolding finding
returns c = record {
  trace = λ m text. found_legal m (judgement (no_names m) text) (nothing m text);
  refused = λ m text. found_refused m (judgement (no_names m) text) (nothing m text);
  fault = λ m text. found_fault m (judgement (no_names m) text) (nothing m text);
}
