use Rattle.rapid_line.proofs.IsBarredProperties.{cut_marked, barred_marked}
use Rattle.rapid_line.proofs.marks.first_line.Goals as goal

pub returns-clause-cut : goal.returns-clause-cut
returns-clause-cut g c = cut_marked c.args.text.now c.in_ok-marks.marks c.in_ok-marks.ensures

pub returns-clause-known : goal.returns-clause-known
returns-clause-known g c = barred_marked c.args.text.now c.in_ok-marks.marks c.in_ok-marks.ensures
