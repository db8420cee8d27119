use Rattle.std.proofs.Common.{◌≡◌, ◌-◌}
use Rattle.script_drive.proofs.lines.await_end.Given as goal

abbrev pub invariant-looks : goal.invariant-looks
invariant-looks g l = (l.looks.most ≡ g.S.DriveName.patience) × (l.receiver.to ≡ l.fn.receiver.to)

abbrev pub decreases-looks : goal.decreases-looks
decreases-looks g l = l.looks.most - l.looks.made
