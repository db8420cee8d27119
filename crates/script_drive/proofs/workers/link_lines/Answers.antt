use Rattle.std.proofs.Common.{◌≡◌, ◌∙◌, ap, take_all}
use Rattle.std.specs.Prelude.{filter}
use Rattle.script_drive.specs.Workers.{is_link}
use Rattle.script_drive.proofs.workers.link_lines.Goals as goal

pub returns-clause-lines : goal.returns-clause-lines
returns-clause-lines c =
    let lines = c.lines-line-items.result.now in
    let same : lines ≡ c.args.script.now.lines = cc in
    c.loop-line.invariant
    ∙ ap (filter is_link) (take_all c.loop-line.line-index lines c.loop-line-test.false ∙ same)
