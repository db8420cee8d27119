use Rattle.rapid_line.proofs.TellProperties.{told_in_line}
use Rattle.rapid_line.proofs.marks.places_in_line.Goals as goal

pub returns : goal.returns
returns g c =
    told_in_line g.row.SEEN c.args.text.now c.args.byte c.places.result c.args.ends c.requires.no_lf
    c.requires.some c.ranges.ends.fits c.requires.ends c.places.ensures
