use Rattle.std.proofs.Common.{◌≡◌}
use Rattle.std.specs.List.{All}
use mathlib.Core.List.{IsPrefix}
use Rattle.log_pass.specs.Passes.{seeing}
use Rattle.script_drive.specs.Ends.{EndMet}
use Rattle.script_drive.proofs.driving.meet_all.Given as goal

abbrev pub invariant-loop-end : goal.invariant-loop-end
invariant-loop-end g l =
    (l.pass ≡ seeing l.pass.seen l.fn.pass)
    × IsPrefix l.fn.pass.seen l.pass.seen
    × All (EndMet l.pass) l.yielded
