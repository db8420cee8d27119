use Rattle.rapid_text.proofs.PutsProperties.{put_both, all_flushed}
use Rattle.trace_report.proofs.listing.write_lines.Goals as goal

pub returns-clause-ok : goal.returns-clause-ok
returns-clause-ok g c =
    let written = g.W.Output.written in
    all_flushed c.flush.result (written c.args.writer.now) (written c.put_lines.new.writer)
    (written c.flush.new.writer)
    c.new-page.result c.put_lines.new.page c.flush.new.self _ c.new-page.ensures
    (put_both c.in_ok-put_summary.ensures.ok c.in_ok-put_lines.ensures.ok)
    c.flush.ensures.ok c.flush.ensures.empty
