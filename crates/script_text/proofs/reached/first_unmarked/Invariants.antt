use Rattle.std.proofs.Common.{◌≡◌, ◌<◌, ℕ, Some, true}
use Rattle.std.specs.Prelude.{slice_get}
use Rattle.script_text.specs.declared.lines.ScriptLine.{ScriptLine}
use Rattle.script_text.specs.Marks.{names_marked}
use Rattle.script_text.proofs.reached.first_unmarked.Given as goal

abbrev pub invariant-lines : goal.invariant-lines
invariant-lines l = (k : ℕ) (x : ScriptLine) → k < l.line-index → slice_get l.lines k ≡ Some x
    → names_marked l.marks x ≡ true
