use Rattle.std.proofs.Common.{◌≡◌, take}
use Rattle.std.specs.Prelude.{filter}
use Rattle.script_drive.specs.Workers.{is_link}
use Rattle.script_drive.proofs.workers.link_lines.Given as goal

abbrev pub invariant-loop-line : goal.invariant-loop-line
invariant-loop-line l = l.lines.items ≡ filter is_link (take l.line-index l.line-items)
