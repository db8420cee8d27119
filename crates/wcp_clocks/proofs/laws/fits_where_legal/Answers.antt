use Rattle.wcp_clocks.proofs.FitsProperties.{fits_where_legal}
use Rattle.wcp_clocks.proofs.laws.fits_where_legal.Goals as goal

pub returns : goal.returns
returns c = fits_where_legal
