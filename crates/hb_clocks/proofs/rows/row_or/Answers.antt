use Rattle.std.proofs.Common.{◌≡◌, ◌<◌, length, sym, ◌∙◌, arith}
use Rattle.hb_clocks.specs.Rows.{widths_of}
use Rattle.hb_clocks.proofs.MadeRows.{zeros_for, read_width}
use Rattle.hb_clocks.proofs.rows.row_or.Goals as goal

pub returns-then-width-eq0-clause-counts : goal.returns-then-width-eq0-clause-counts
returns-then-width-eq0-clause-counts c =
    let rows = c.args.rows.now in
    let within : c.args.at < length rows = omega arith in
    let none : widths_of rows c.args.at ≡ 0 =
    read_width rows c.args.at c.index-rows-at.result within c.index-rows-at.is ∙ sym c.width.ensures
    ∙ c.if-width-eq0.true in
    zeros_for (length c.args.zeros.now) c.args.zeros.now rows c.args.at c.requires.zeros none
