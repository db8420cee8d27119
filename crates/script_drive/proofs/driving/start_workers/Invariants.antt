use Rattle.std.proofs.Common.{◌≡◌, map}
use Rattle.script_drive.proofs.driving.start_workers.Given as goal

abbrev pub invariant-loop-worker : goal.invariant-loop-worker
invariant-loop-worker g l =
    map (λ handle. handle.promise.thread) l.started.items ≡ map (λ worker. worker.own.thread) l.yielded
