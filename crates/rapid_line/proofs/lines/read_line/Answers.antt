use Rattle.std.proofs.Common.{subst, Result}
use Rattle.rapid_line.specs.declared.words.LineFault.{LineFault}
use Rattle.rapid_line.specs.Grammar.{NamedEvent}
use Rattle.rapid_line.specs.Reading.{named_of, Gives}
use Rattle.rapid_line.proofs.SpellingProperties.{read_again}
use Rattle.rapid_line.proofs.IsFirstCauseProperties.{found_of, first_of}
use Rattle.rapid_line.proofs.lines.read_line.Goals as goal

pub returns-clause-found : goal.returns-clause-found
returns-clause-found c = found_of c.args.bytes.now c.parts.result c.requires c.parts.ensures

pub returns-clause-only : goal.returns-clause-only
returns-clause-only c =
    λ e h. subst (λ (r : Result NamedEvent LineFault). Gives named_of c.parts.result r)
    (read_again c.args.bytes.now e h) c.parts.ensures

pub returns-clause-first : goal.returns-clause-first
returns-clause-first c = first_of c.args.bytes.now c.parts.result c.parts.ensures
