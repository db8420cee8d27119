use Rattle.std.proofs.lemmas.Result.{on_ok_weaker}
use Rattle.rapid_text.proofs.PutsProperties.{put_both, put_same}
use Rattle.trace_report.proofs.Texts.{counts_parts}
use Rattle.trace_report.proofs.counts.Counts.put.Goals as goal

pub returns-clause-ok : goal.returns-clause-ok
returns-clause-ok g c =
    let is = counts_parts c.args.self.now c.from.result c.from-2.result c.from-3.result c.from.ensures
    c.from-2.ensures c.from-3.ensures in
    on_ok_weaker c.put_count-4.result
    (λ h. put_same is (put_both (put_both (put_both c.in_ok-put_count.ensures.ok
    c.in_ok-put_count-2.ensures.ok) c.in_ok-put_count-3.ensures.ok) h))
    c.put_count-4.ensures.ok
