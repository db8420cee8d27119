use Rattle.std.proofs.Common.{rules, ◌≡◌, ◌∙◌, ap}
use Rattle.std.specs.Prelude.{filter}
use Rattle.script_drive.specs.Workers.{forked, is_link}
use Rattle.script_drive.proofs.LinkLines.{forked_links}
use Rattle.script_drive.proofs.workers.all_workers.Goals as goal

pub returns-clause-all : goal.returns-clause-all
returns-clause-all g c =
    let same : c.as_slice-lines.result.now ≡ filter is_link g.S.DriveName.lines = search rules in
    c.in_ok-workers-2.ensures ∙ (c.in_ok-workers.ensures ∙ (c.in_ok-starts.ensures
    ∙ (ap forked same ∙ forked_links g.S.DriveName.lines)))
