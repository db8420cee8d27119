use Rattle.std.proofs.Common.{◌≡◌, take}
use Rattle.hb_clocks.specs.Counts.{counts_of}
use Rattle.access_check.specs.LastAccesses.{latest_from}
use Rattle.access_check.proofs.last_accesses.latest_racing.Given as goal

abbrev pub invariant-loop-last : goal.invariant-loop-last
invariant-loop-last g l =
    l.found ≡ latest_from l.fn.before l.thread (counts_of (g.T.VectorTime.numbers l.clock))
    (take l.last-index l.lasts)
