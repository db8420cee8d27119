use Rattle.std.proofs.Common.{◌≡◌, ℕ, ◌+◌, ◌-◌, ◌<◌, ◌≤◌, length}
use Rattle.hb_clocks.specs.Marks.{mark_at, Covers}
use Rattle.hb_clocks.proofs.search.search_marks.Given as goal

abbrev pub invariant-searching : goal.invariant-searching
invariant-searching l = record {
  counted : (k : ℕ) → k < l.more → Covers l.clock (mark_at l.marks k);
  within : l.more ≤ length l.marks;
  from : l.fn.known ≤ l.more;
  joins : l.done.joins ≡ l.fn.work.joins;
  comparisons : l.done.comparisons + l.fn.known ≡ l.fn.work.comparisons + l.more;
}

abbrev pub decreases-searching : goal.decreases-searching
decreases-searching l = length l.marks - l.more
