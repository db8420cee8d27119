use Rattle.std.proofs.Common.{sym, subst}
use Rattle.std.proofs.lemmas.Result.{on_ok_weaker}
use Rattle.lock_queues.specs.Queues.{is_ready}
use Rattle.wcp_clocks.specs.Parts.{HasPlaces}
use Rattle.wcp_clocks.proofs.GrownForProperties.{queues_grown, queue_made}
use Rattle.wcp_clocks.proofs.room.prepare_places.Goals as goal

pub returns-in_ok-prepare-in-Acquire-clause-queues : goal.returns-in_ok-prepare-in-Acquire-clause-queues
returns-in_ok-prepare-in-Acquire-clause-queues c =
    let made = c.make_room in
    queues_grown made.result c.args.thread.0 c.in-Acquire.lock.0 made.ensures.same made.ensures.ok
    made.ensures.err

pub returns-in_ok-prepare-in-Acquire-clause-ready : goal.returns-in_ok-prepare-in-Acquire-clause-ready
returns-in_ok-prepare-in-Acquire-clause-ready c =
    let t = c.args.thread in
    let made = c.make_room in
    on_ok_weaker made.result (λ ok. subst (HasPlaces c.args.sums.now made.new.self c.prepare.new.self t)
    (sym c.in-Acquire.is) (
      queue_made (is_ready c.args.queues.now) (is_ready made.new.self) t.0 c.in-Acquire.lock.0 ok,
      c.in_ok-prepare-in-Acquire.ensures.room,
    )) made.ensures.ok
