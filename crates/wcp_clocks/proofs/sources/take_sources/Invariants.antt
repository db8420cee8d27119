use Rattle.std.proofs.Common.{take}
use Rattle.lock_queues.specs.Queues.{closed_of}
use Rattle.wcp_clocks.specs.HeldLists.{numbers_of}
use Rattle.wcp_clocks.proofs.TakeLaws.{HasTaken}
use Rattle.wcp_clocks.proofs.sources.take_sources.Given as goal

abbrev pub invariant-loop-lock : goal.invariant-loop-lock
invariant-loop-lock l = HasTaken l.sums (closed_of l.queues) l.var.0 l.kind l.thread.0 l.fn.rows l.rows
    l.fn.work l.work (numbers_of (take l.lock-index l.held))
