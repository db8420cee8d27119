-- What the clock of one release says.
use Rattle.std.specs.Prelude.{ℕ, List}
use Rattle.event_core.specs.Rows.{bump}
use Rattle.event_core.specs.declared.ids.ThreadId.{ThreadId}
use Rattle.hb_clocks.specs.Counts.{counts_of}
use Rattle.hb_clocks.specs.declared.release.ReleaseClock.{ReleaseClock}

-- the thread whose release it is
abbrev pub thread_of : ReleaseClock → ThreadId
thread_of r = r.by

-- the numbers from just before it, beyond which each is 0
abbrev pub before_of : ReleaseClock → List ℕ
before_of r = r.before.now

-- the clock: the release is one more event of its thread
abbrev pub clock_of : ReleaseClock → ℕ → ℕ
clock_of r = bump r.by.0 (counts_of r.before.now)
