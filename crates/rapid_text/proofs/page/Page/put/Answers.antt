use Rattle.std.proofs.Common.{List, ℕ, ap, subst, ◌∙◌}
use Rattle.std.proofs.lemmas.Result.{on_ok_weaker}
use Rattle.arrayvec.specs.ArrayVec.{ArrayVec}
use Rattle.rapid_text.specs.Pages.{Puts}
use Rattle.rapid_text.proofs.PutsProperties.{put_over}
use Rattle.rapid_text.proofs.page.Page.put.Goals as goal

pub returns-clause-ok : goal.returns-clause-ok
returns-clause-ok g c =
    let written = g.W.Output.written in
    let start = written c.args.writer.now in
    let end = written c.write_all.new.w in
    let is = ap (λ (b : ArrayVec ℕ). b.items) c.in-Err.ensures.err ∙ c.self.view_is in
    on_ok_weaker c.write_all.result
    (λ h. subst (λ (p : List ℕ). Puts start p end c.flush.new.self c.args.bytes.now) is
    (put_over end c.args.bytes.now c.in_ok-flush.ensures.ok c.in_ok-flush.ensures.empty h))
    c.write_all.ensures.ok
