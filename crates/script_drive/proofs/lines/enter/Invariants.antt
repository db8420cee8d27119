use Rattle.std.proofs.Common.{◌≡◌, ◌-◌, ◌⊎◌, false}
use Rattle.script_drive.proofs.lines.enter.Given as goal

-- a gate that let no line go ahead is not free
abbrev pub invariant-tries : goal.invariant-tries
invariant-tries g l =
    (l.tries.most ≡ g.S.DriveName.patience) × ((l.tries.made ≡ 0) ⊎ (g.G.Gate.free ≡ false))

abbrev pub decreases-tries : goal.decreases-tries
decreases-tries g l = l.tries.most - l.tries.made
