use Rattle.script_text.specs.Marks.{MarksReached, Keeps}
use Rattle.script_text.proofs.MarksProperties.{Passed}
use Rattle.script_text.proofs.reached.spread.Given as goal

abbrev pub invariant-lines : goal.invariant-lines
invariant-lines l = record {
  sound : MarksReached l.lines l.marks;
  keeps : Keeps l.fn.marks l.marks;
  passed : Passed l.lines l.fn.marks l.marks l.line-index l.changed;
}
