use Rattle.seq_monitor.proofs.parts.prepare.Goals as goal

pub returns-then-others_ready-clause-ready : goal.returns-then-others_ready-clause-ready
returns-then-others_ready-clause-ready c =
    let room = c.others_ready.ensures.ready.0 c.if-others_ready.true in
    record {
      memory = room.memory;
      clocks = c.in_ok-prepare_for.ensures.ready;
      accesses = room.accesses;
      events = room.events;
      verdicts = room.verdicts;
    }
