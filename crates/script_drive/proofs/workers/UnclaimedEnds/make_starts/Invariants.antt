use Rattle.std.proofs.Common.{◌≡◌, map, take}
use Rattle.script_drive.specs.Workers.{forked}
use Rattle.script_drive.proofs.workers.UnclaimedEnds.make_starts.Given as goal

abbrev pub invariant-loop-line : goal.invariant-loop-line
invariant-loop-line g l = map (λ start. start.receiver.to) l.starts.items ≡ forked (take l.line-index l.lines)
