use Rattle.std.proofs.Common.{rules}
use Rattle.std.proofs.lemmas.Fn.{filter_same}
use Rattle.wcp_clocks.proofs.holdings.take_out.Goals as goal

pub returns-clause-locks : goal.returns-clause-locks
returns-clause-locks c = filter_same _ _ _ (λ x b f' k. search rules) _ _ c.retain.ensures.filtered
