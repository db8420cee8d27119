use Rattle.lock_queues.specs.Queues.{closed_of}
use Rattle.wcp_clocks.specs.MetReleases.{rest, most_threads}
use Rattle.wcp_clocks.proofs.TakeLaws.{IsTakingAll}
use Rattle.wcp_clocks.proofs.sources.take_under.Given as goal

abbrev pub invariant-loop-release : goal.invariant-loop-release
invariant-loop-release l = IsTakingAll l.sums (closed_of l.queues) l.fn.lock.0 l.fn.var.0 l.thread.0 l.fn.kind
    l.fn.rows l.rows l.fn.work l.work (rest l.release-iterator) (most_threads l.release-iterator)
    l.queues.limits.threads
