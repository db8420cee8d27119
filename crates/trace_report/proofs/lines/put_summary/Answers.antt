use Rattle.std.proofs.lemmas.Result.{on_ok_weaker}
use Rattle.rapid_text.proofs.PutsProperties.{put_both}
use Rattle.trace_report.proofs.lines.put_summary.Goals as goal

pub returns-clause-ok : goal.returns-clause-ok
returns-clause-ok g c =
    on_ok_weaker c.put-2.result
    (λ h. put_both (put_both c.in_ok-put.ensures.ok c.in_ok-put_count.ensures.ok) h)
    c.put-2.ensures.ok
