use Rattle.std.proofs.Common.{take}
use Rattle.script_drive.specs.Lines.{lines_by}
use Rattle.script_drive.specs.Workers.{Serves}
use Rattle.script_drive.proofs.workers.UnclaimedEnds.connect.Given as goal

abbrev pub invariant-loop-line : goal.invariant-loop-line
invariant-loop-line g l = Serves l.links (lines_by l.thread (take l.line-index l.lines))
