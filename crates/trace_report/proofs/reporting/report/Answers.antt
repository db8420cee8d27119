use Rattle.std.proofs.Common.{List, ℕ, ◌++◌, ap, subst, ◌∙◌, append-nil}
use Rattle.trace_report.specs.declared.summary.Summary.{Summary}
use Rattle.rapid_text.specs.Pages.{Puts}
use Rattle.trace_report.specs.Reports.{report_of, summary_line, race_lines}
use Rattle.rapid_text.proofs.PutsProperties.{put_both, put_same, all_written}
use Rattle.trace_report.proofs.reporting.report.Goals as goal

pub returns-clause-ok : goal.returns-clause-ok
unfolding report_of
returns-clause-ok g c =
    let written = g.W.Output.written in
    let start = written c.args.writer.now in
    let end = written c.flush.new.writer in
    let page = c.flush.new.self in
    let races = race_lines c.args.names.now c.args.log.now.events 0 c.args.verdicts.now.verdicts in
    let text = report_of c.args.names.now c.args.log.now.events c.args.verdicts.now.verdicts in
    let is = append-nil (summary_line c.of-told.result ++ races)
    ∙ ap (λ (s : Summary). summary_line s ++ races) c.of-told.ensures in
    let all = put_same is (put_both (put_both c.in_ok-put_summary.ensures.ok c.in_ok-put_races.ensures.ok)
    c.in_ok-flush.ensures.ok) in
    all_written start end page text
    (subst (λ (waited : List ℕ). Puts start waited end page text) c.new-page.ensures all)
    c.in_ok-flush.ensures.empty
