use Rattle.std.proofs.Common.{◌≡◌, IfOk, subst, sym}
use Rattle.hb_clocks.specs.State.{empty}
use Rattle.hb_clocks.specs.Standing.{IsAtMost}
use Rattle.hb_clocks.specs.Tables.{state_of}
use Rattle.hb_clocks.proofs.IsAtMostProperties.{none_at_most}
use Rattle.clock_tests.proofs.clocks.Run.new.Goals as goal

pub invariant_of-result-clause-few : goal.invariant_of-result-clause-few
invariant_of-result-clause-few g c =
    let begun : state_of c.expect-clocks.result.0 ≡ empty
    = subst (λ r. IfOk r (λ made. state_of made.0 ≡ empty)) c.expect-clocks.ensures
    c.new-2.ensures.empty in
    subst (IsAtMost 0) (sym begun) none_at_most
