use Rattle.std.proofs.Common.{◌≡◌, map}
use Rattle.script_drive.proofs.workers.UnclaimedEnds.connect_all.Given as goal

abbrev pub invariant-loop-start : goal.invariant-loop-start
invariant-loop-start g l =
    map (λ worker. worker.own.thread) l.workers.items ≡ map (λ start. start.receiver.to) l.yielded
