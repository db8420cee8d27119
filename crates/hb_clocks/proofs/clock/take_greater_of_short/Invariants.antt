use Rattle.std.proofs.Common.{◌≡◌, ℕ, ◌<◌, ◌≤◌, get_or, max}
use Rattle.hb_clocks.proofs.clock.take_greater_of_short.Given as goal

-- below u the numbers are joined, and from u on they are as they were
abbrev pub invariant-loop-u : goal.invariant-loop-u
invariant-loop-u l = record {
  joined : (k : ℕ) → k < l.u → get_or l.mine k 0 ≡ max (get_or l.initial.mine k 0) (get_or l.theirs k 0);
  left : (k : ℕ) → l.u ≤ k → get_or l.mine k 0 ≡ get_or l.initial.mine k 0;
}
