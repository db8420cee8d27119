use Rattle.std.proofs.Common.{◌≤◌, take}
use Rattle.std.specs.List.{All, Contains}
use Rattle.script_drive.specs.Faults.{rank}
use Rattle.script_drive.proofs.faults.first_fault.Given as goal

abbrev pub invariant-loop-fault : goal.invariant-loop-fault
invariant-loop-fault l =
    Contains l.faults l.first × All (λ other. rank l.first ≤ rank other) (take l.fault-index l.faults)
