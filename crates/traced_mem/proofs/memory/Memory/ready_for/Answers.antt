use Rattle.std.proofs.Common.{length, ap, arith}
use Rattle.traced_mem.specs.Tables.{MemoryTables}
use Rattle.traced_mem.proofs.AllowsProperties.{release_room}
use Rattle.traced_mem.proofs.memory.Memory.ready_for.Goals as goal

pub returns-then-thread-len-clause-release : goal.returns-then-thread-len-clause-release
returns-then-thread-len-clause-release c lock e h =
    c.has_room_for.ensures.1 (release_room _ _ _ _ lock c.self.view_is c.self.invariant e h).room

pub returns-else-thread-len-clause-release : goal.returns-else-thread-len-clause-release
returns-else-thread-len-clause-release c lock e h =
    let within = (release_room _ _ _ _ lock c.self.view_is c.self.invariant e h).caller in
    let seen = ap (λ (t : MemoryTables). length t.threads) c.self.view_is in
    let len = c.len.ensures in
    let past = c.if-thread-len.false in
    absurd (omega arith)
