use Rattle.rapid_text.proofs.PutsProperties.{put_both, all_flushed}
use Rattle.rapid_text.proofs.writing.write_event.Goals as goal

pub returns-clause-ok : goal.returns-clause-ok
returns-clause-ok g c =
    let written = g.W.Output.written in
    all_flushed c.flush.result (written c.args.w.now) (written c.put.new.writer) (written c.flush.new.writer)
    c.new-page.result c.put.new.self c.flush.new.self _ c.new-page.ensures
    (put_both c.in_ok-put_event.ensures.ok c.in_ok-put.ensures.ok) c.flush.ensures.ok c.flush.ensures.empty
