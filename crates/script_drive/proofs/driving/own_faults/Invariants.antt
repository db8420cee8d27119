use Rattle.std.proofs.Common.{◌≡◌, take}
use Rattle.std.specs.List.{filter_map}
use Rattle.script_drive.specs.Ends.{end_fault}
use Rattle.script_drive.proofs.driving.own_faults.Given as goal

abbrev pub invariant-loop-end : goal.invariant-loop-end
invariant-loop-end g l = l.faults.items ≡ filter_map end_fault (take l.end-index l.ends)
