use Rattle.std.proofs.Common.{◌+◌, subst, sym, arith}
use Rattle.hb_clocks.specs.Standing.{IsAtMost}
use Rattle.hb_clocks.specs.Tables.{state_of}
use Rattle.hb_clocks.proofs.IsAtMostProperties.{at_most_more, grows_by_one}
use Rattle.clock_tests.proofs.clocks.Run.take.Goals as goal

pub advance-requires-clause-few : goal.advance-requires-clause-few
advance-requires-clause-few g c =
    let run = c.args.self.now in
    subst (IsAtMost 4294967296) (sym c.prepare.ensures.same)
    (at_most_more run.events 4294967296 (state_of run.clocks) (omega arith) run.few)

pub invariant_of-self-clause-few : goal.invariant_of-self-clause-few
invariant_of-self-clause-few g c =
    let run = c.args.self.now in
    let few = subst (IsAtMost run.events) (sym c.prepare.ensures.same) run.few in
    subst (IsAtMost (run.events + 1)) (sym c.advance.ensures.exact)
    (grows_by_one run.events c.args.event.now (state_of c.prepare.new.self) few)
