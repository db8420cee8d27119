use Rattle.std.proofs.Common.{◌≡◌, ◌≤◌, ◌-◌}
use Rattle.live_monitor.specs.Tries.{one_more}
use Rattle.live_monitor.proofs.RetryLaws.{HasTried}
use Rattle.live_monitor.proofs.shared.Shared.acquire_within.Given as goal

abbrev pub invariant-tries : goal.invariant-tries
invariant-tries g l =
    HasTried l.fn.pass l.pass × (l.tries.most ≡ l.fn.tries.most)
    × ((one_more l.fn.tries).made ≤ l.tries.made)

abbrev pub decreases-tries : goal.decreases-tries
decreases-tries g l = l.tries.most - l.tries.made
