use Rattle.std.proofs.Common.{sym, ◌∙◌}
use Rattle.std.proofs.lemmas.Bool.{eqb-true}
use Rattle.script_text.proofs.MarksProperties.{set_none}
use Rattle.script_text.proofs.reached.mark_main.Goals as goal

pub returns-then-is_empty : goal.returns-then-is_empty
returns-then-is_empty c = set_none c.args.marks.now (eqb-true _ 0 (sym c.is_empty.ensures
    ∙ c.if-is_empty.true))
