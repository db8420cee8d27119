use Rattle.std.proofs.Common.{◌≡◌, map}
use Rattle.script_drive.proofs.workers.UnclaimedEnds.with_ends.Given as goal

abbrev pub invariant-loop-worker : goal.invariant-loop-worker
invariant-loop-worker g l =
    map (λ worker. worker.own.thread) l.ended.items ≡ map (λ worker. worker.own.thread) l.yielded
