use Rattle.std.proofs.lemmas.Nat.{le_bytes_8}
use Rattle.rapid_text.proofs.number_cache.word.Goals as goal

pub returns : goal.returns
returns c =
    le_bytes_8 c.args.bytes.now c.from_le_bytes.result c.told-bytes c.fits-bytes c.from_le_bytes.ensures
