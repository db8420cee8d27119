use Rattle.std.proofs.Common.{take}
use Rattle.closed_report.specs.Places.{AreByPlace}
use Rattle.closed_report.proofs.places.races_by_place.Given as goal

abbrev pub invariant-loop-race : goal.invariant-loop-race
invariant-loop-race l = AreByPlace l.closed.log (take l.race-index l.race-items) l.found.items
