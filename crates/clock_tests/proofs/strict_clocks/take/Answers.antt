use Rattle.clock_tests.proofs.OneLog.{next_legal, next_within, next_fits, stand_after}
use Rattle.clock_tests.proofs.strict_clocks.take.Goals as goal

pub prepare-requires : goal.prepare-requires
prepare-requires g c =
    next_within _ _ _ c.requires
    (next_legal _ _ _ _ c.requires c.make-event.ensures.stands c.make-event.ensures.limits)

pub advance-requires-clause-fits : goal.advance-requires-clause-fits
advance-requires-clause-fits g c =
    next_fits _ _ _ _ c.requires
    (next_legal _ _ _ _ c.requires c.make-event.ensures.stands c.make-event.ensures.limits)
    c.prepare.ensures.same

pub returns : goal.returns
returns g c =
    let made = c.make-event.ensures in
    stand_after _ _ _ _ _ _ c.requires (next_legal _ _ _ _ c.requires made.stands made.limits)
    (made.stands c.requires.log c.requires.memory) made.limits c.prepare.ensures.same
    c.prepare.ensures.limits c.advance.ensures.stands
    (record {
      found = c.advance.ensures.found;
      joins = c.advance.ensures.joins;
      comparisons = c.advance.ensures.comparisons;
    })
    c.advance.ensures.limits
