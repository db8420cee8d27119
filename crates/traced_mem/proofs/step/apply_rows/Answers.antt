use Rattle.traced_mem.specs.Tables.{locks_of}
use Rattle.traced_mem.proofs.IsReadyProperties.{threads_by}
use Rattle.traced_mem.proofs.step.apply_rows.Goals as goal

pub returns-in-Acquire-clause-threads : goal.returns-in-Acquire-clause-threads
returns-in-Acquire-clause-threads c =
    threads_by c.args.call.now.thread (locks_of c.args.locks.now) c.in-Acquire.is c.gain.ensures.rows
    c.mention.ensures.rows

pub returns-in-Release-clause-threads : goal.returns-in-Release-clause-threads
returns-in-Release-clause-threads c =
    threads_by c.args.call.now.thread (locks_of c.args.locks.now) c.in-Release.is c.lose.ensures.rows
    c.mention.ensures.rows

pub returns-in-Fork-clause-threads : goal.returns-in-Fork-clause-threads
returns-in-Fork-clause-threads c =
    threads_by c.args.call.now.thread (locks_of c.args.locks.now) c.in-Fork.is c.mention-in-Fork.ensures.rows
    c.mention.ensures.rows

pub returns-in-Join-clause-threads : goal.returns-in-Join-clause-threads
returns-in-Join-clause-threads c =
    threads_by c.args.call.now.thread (locks_of c.args.locks.now) c.in-Join.is c.mention-in-Join.ensures.rows
    c.mention.ensures.rows

-- no thread's row was added or taken away
pub returns-in-Acquire-clause-below : goal.returns-in-Acquire-clause-below
returns-in-Acquire-clause-below c below =
    rw (c.gain.ensures.same, c.mention.ensures.same) (c.deepen.ensures.below _ below c.requires.caller)

pub returns-in-Release-clause-below : goal.returns-in-Release-clause-below
returns-in-Release-clause-below c below =
    rw (c.lose.ensures.same, c.mention.ensures.same) (c.lessen.ensures.below _ below)

pub returns-in-Fork-clause-below : goal.returns-in-Fork-clause-below
returns-in-Fork-clause-below c below = rw (c.mention-in-Fork.ensures.same, c.mention.ensures.same) below

pub returns-in-Join-clause-below : goal.returns-in-Join-clause-below
returns-in-Join-clause-below c below = rw (c.mention-in-Join.ensures.same, c.mention.ensures.same) below
