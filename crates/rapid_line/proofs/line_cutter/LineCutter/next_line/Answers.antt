use Rattle.std.proofs.Common.{refl}
use Rattle.rapid_line.proofs.ReadingProperties.{where_err}
use Rattle.rapid_line.proofs.LinesProperties.{cuts, long_line}
use Rattle.rapid_line.proofs.line_cutter.LineCutter.next_line.Goals as goal

pub returns-clause-line : goal.returns-clause-line
returns-clause-line c =
    rw (← c.self.view_is)
    (cuts c.self.invariant.0 c.in-Some.ensures.cut c.in_ok-whole.ensures.line c.in_ok-whole.ensures.empty refl
    refl)

pub returns-in_err-whole-clause-too_long : goal.returns-in_err-whole-clause-too_long
returns-in_err-whole-clause-too_long c =
    rw (← c.self.view_is) (where_err c.from_residual-in_err-whole.result
    (long_line _ c.args.piece.now c.in-Some.line.bytes.now c.in-Some.rest.now c.self.invariant.0
    c.in-Some.ensures.cut c.in_err-whole.ensures.long))
