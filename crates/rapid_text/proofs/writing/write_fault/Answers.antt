use Rattle.std.proofs.Common.{List, ℕ, [], ◌∷◌, ◌++◌, ap₂, ◌∙◌}
use Rattle.std.specs.Prelude.{codes}
use Rattle.rapid_text.proofs.PutsProperties.{put_both, put_same, all_flushed}
use Rattle.rapid_text.proofs.writing.write_fault.Goals as goal

pub returns-clause-ok : goal.returns-clause-ok
returns-clause-ok g c =
    let written = g.W.Output.written in
    let is = ap₂ (λ (digits word : List ℕ). codes "line " ++ digits ++ codes ": " ++ word ++ 10 ∷ [])
    (c.as_bytes.ensures.value ∙ c.format.ensures.text) c.as_bytes-2.ensures.value in
    all_flushed c.flush.result (written c.args.w.now) (written c.put-5.new.writer)
    (written c.flush.new.writer) c.new-page.result c.put-5.new.self c.flush.new.self _ c.new-page.ensures
    (put_same is (put_both (put_both (put_both (put_both c.in_ok-put.ensures.ok c.in_ok-put-2.ensures.ok)
    c.in_ok-put-3.ensures.ok) c.in_ok-put-4.ensures.ok) c.in_ok-put-5.ensures.ok))
    c.flush.ensures.ok c.flush.ensures.empty
