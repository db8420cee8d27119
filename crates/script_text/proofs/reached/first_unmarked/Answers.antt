use Rattle.std.proofs.Common.{Some, ap, sym, ◌∙◌}
use Rattle.std.proofs.lemmas.Option.{slice_get-get_or}
use Rattle.script_text.proofs.reached.first_unmarked.Goals as goal

pub are_marked-requires : goal.are_marked-requires
are_marked-requires c = λ u named. c.requires c.lines.line-index _ u
    (slice_get-get_or c.args.lines.now c.lines.line-index _ c.lines-test.true
    ∙ ap Some (sym (c.get-line.ensures ∙ c.line-item.is))) named
