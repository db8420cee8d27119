use Rattle.rapid_line.proofs.IsFirstCauseProperties.{found_of}
use Rattle.rapid_line.proofs.IsBarredProperties.{line_fielded}
use Rattle.rapid_line.proofs.lines.read_barred.Goals as goal

pub returns-clause-exact : goal.returns-clause-exact
returns-clause-exact c =
    let f = c.fields_at.result in
    rw (line_fielded c.args.bytes.now (f.0.now, f.1.now, f.2.now) c.requires.barred.short
    c.requires.barred.no_cr c.fields_at.ensures) c.named.ensures

pub returns-clause-found : goal.returns-clause-found
returns-clause-found c = found_of c.args.bytes.now c.named.result c.requires.lf (returns-clause-exact c)
