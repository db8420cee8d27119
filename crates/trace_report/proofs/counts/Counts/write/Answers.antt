use Rattle.trace_report.specs.Checked.{counts_line}
use Rattle.rapid_text.proofs.PutsProperties.{put_both, all_flushed}
use Rattle.trace_report.proofs.counts.Counts.write.Goals as goal

pub returns-clause-ok : goal.returns-clause-ok
returns-clause-ok g c =
    let written = g.W.Output.written in
    all_flushed c.flush.result (written c.args.writer.now) (written c.put-2.new.writer)
    (written c.flush.new.writer) c.new-page.result c.put-2.new.self c.flush.new.self
    (counts_line c.args.self.now) c.new-page.ensures
    (put_both c.in_ok-put.ensures.ok c.in_ok-put-2.ensures.ok) c.flush.ensures.ok c.flush.ensures.empty
