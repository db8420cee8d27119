use Rattle.event_core.proofs.BelowProperties.{premise_from, premise_is}
use Rattle.event_core.proofs.laws.strict.premise_of_b.Goals as goal

pub returns : goal.returns
returns c = λ m log u v l a r b s w p q. (λ x. premise_is p x.2 x.3 x.4, λ d. premise_from p q d)
