use Rattle.std.proofs.Common.{◌∙◌}
use Rattle.rapid_text.proofs.number_cache.last_word.Goals as goal

pub returns : goal.returns
returns c = let found = rw c.unwrap.ensures at c.last_chunk.ensures.cases in c.word.ensures ∙ found.1.same
