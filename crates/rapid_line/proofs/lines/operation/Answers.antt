use Rattle.rapid_line.proofs.SpellingProperties.{operation_ahead}
use Rattle.rapid_line.proofs.lines.operation.Goals as goal

pub returns-in-Some : goal.returns-in-Some
returns-in-Some c =
    rw (operation_ahead c.args.field.now c.in-Some.word c.in-Some.rest.now c.in-Some.ensures)
    c.with_argument.ensures
