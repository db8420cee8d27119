use Rattle.std.proofs.Common.{◌≡◌, ◌<◌, length, true}
use Rattle.script_text.specs.Marks.{MarksReached, unmarked, is_marked}
use Rattle.script_text.proofs.reached.reached_threads.Given as goal

abbrev pub invariant-spreads : goal.invariant-spreads
invariant-spreads l = record {
  len : length l.marks.items ≡ l.threads;
  sound : MarksReached l.lines l.marks.items;
  first : 0 < l.threads → is_marked l.marks.items 0 ≡ true;
}

abbrev pub decreases-spreads : goal.decreases-spreads
decreases-spreads l = unmarked l.marks.items
