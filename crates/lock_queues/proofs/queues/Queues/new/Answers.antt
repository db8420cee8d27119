use Rattle.std.proofs.Common.{List, [], refl, sym, subst}
use Rattle.lock_queues.specs.Queue.{OneQueue}
use Rattle.lock_queues.specs.Queues.{closed_of, opened_of, found_of}
use Rattle.lock_queues.specs.Standing.{AreOf}
use Rattle.lock_queues.proofs.StandsForProperties.{nothing_stands}
use Rattle.lock_queues.proofs.SearchedProperties.{tables}
use Rattle.lock_queues.proofs.queues.Queues.new.Goals as goal

pub returns-clause-stands : goal.returns-clause-stands
returns-clause-stands c =
    subst (λ (qs : List OneQueue).
    let v = tables c.args.limits qs c.args.releases.numbers 0 c.args.releases.most in
    AreOf [] (closed_of v) (opened_of v) (found_of v)) (sym c.new.ensures.items)
    (nothing_stands refl refl refl)
