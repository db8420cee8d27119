use Rattle.std.proofs.Common.{ℕ, List, ◌++◌, ap₂, ◌∙◌}
use Rattle.std.proofs.lemmas.Result.{on_ok_weaker}
use Rattle.rapid_text.proofs.PutsProperties.{put_both, put_same}
use Rattle.trace_report.proofs.lines.put_count.Goals as goal

pub returns-clause-ok : goal.returns-clause-ok
returns-clause-ok g c =
    let is = ap₂ (λ (label digits : List ℕ). label ++ digits) c.as_bytes.ensures.value
    (c.as_bytes-2.ensures.value ∙ c.format.ensures.text) in
    on_ok_weaker c.put-2.result (λ h. put_same is (put_both c.in_ok-put.ensures.ok h)) c.put-2.ensures.ok
