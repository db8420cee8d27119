use Rattle.std.proofs.Common.{sym, ◌∙◌}
use Rattle.script_text.proofs.MarksProperties.{own_named, child_named, target_named}
use Rattle.script_text.proofs.reached.are_marked.Goals as goal

pub bounds-marks-thread : goal.bounds-marks-thread
bounds-marks-thread c = rw c.thread.ensures (c.requires _ (own_named c.args.line.now))

pub is_marked_or_none-requires : goal.is_marked_or_none-requires
is_marked_or_none-requires c = λ u e. c.requires u.0 (child_named c.args.line.now u (sym c.fork.ensures ∙ e))

pub is_marked_or_none-requires-2 : goal.is_marked_or_none-requires-2
is_marked_or_none-requires-2 c = λ u e. c.requires u.0 (target_named c.args.line.now u (sym c.join.ensures
    ∙ e))
