use Rattle.lock_queues.specs.Queues.{closed_of}
use Rattle.wcp_clocks.proofs.MetNumbers.{closed_after}
use Rattle.wcp_clocks.proofs.source_clocks.SourceClocksIterator.next.Goals as goal

pub invariant_of-self : goal.invariant_of-self
invariant_of-self c = record {
  closed = closed_after (closed_of c.args.self.now.queues.now c.args.self.now.lock.0) c.args.self.now.numbers
      c.next.new.self c.next.result c.next.ensures.steps c.args.self.now.closed;
}
