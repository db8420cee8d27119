use Rattle.rapid_text.proofs.ContentProperties.{content_known}
use Rattle.rapid_text.proofs.event_lines.read_content.Goals as goal

pub returns-in-Some-clause-exact : goal.returns-in-Some-clause-exact
returns-in-Some-clause-exact c =
    rw (content_known c.args.line _ c.requires.known c.in-Some.is) c.read_barred.ensures.exact
