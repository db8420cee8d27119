use Rattle.std.proofs.Common.{◌≡◌, ℕ, true, take}
use Rattle.section_sum.specs.Sums.{is_held, is_ready}
use Rattle.section_sum.proofs.summaries.Summaries.ready.Given as goal

abbrev pub invariant-loop-lock : goal.invariant-loop-lock
invariant-loop-lock l = (m : ℕ) → is_held (take l.lock-index l.held) m ≡ true → is_ready l.self m l.var.0
    ≡ true
