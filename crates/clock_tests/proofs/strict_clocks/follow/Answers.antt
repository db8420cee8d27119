use Rattle.std.proofs.Common.{◌≡◌, [], IfOk, subst, ap, ◌∙◌}
use Rattle.event_core.specs.declared.bounds.Limits.{Limits}
use Rattle.traced_mem.specs.Standing.{StandsFor as MemoryStandsFor}
use Rattle.wcp_clocks.specs.Parts.{width_of, limits_of, work_of}
use Rattle.wcp_clocks.specs.Standing.{StandsFor}
use Rattle.clock_tests.proofs.OneLog.{no_events}
use Rattle.clock_tests.proofs.strict_clocks.follow.Goals as goal

pub loop-index-init : goal.loop-index-init
loop-index-init g c =
    let limits = c.small_limits-limits.result in
    let small = c.small_limits-limits.ensures in
    let memory = c.expect-memory.ensures in
    let clocks = c.expect-clocks.ensures in
    no_events _ _ (subst (λ r. IfOk r (λ m. MemoryStandsFor [] m)) memory c.new.ensures.stands)
    (subst (λ r. IfOk r (λ m. m.limits ≡ limits)) memory c.new.ensures.limits ∙ small)
    (subst (λ r. IfOk r (λ p. StandsFor [] p)) clocks c.new-2.ensures.stands)
    (subst (λ r. IfOk r (λ p. work_of p ≡ record { comparisons = 0; joins = 0 })) clocks
    c.new-2.ensures.no_work)
    (subst (λ r. IfOk r (λ p. width_of p ≡ limits.threads)) clocks c.new-2.ensures.width
    ∙ ap (λ (m : Limits). m.threads) small)
    (subst (λ r. IfOk r (λ p. limits_of p ≡ limits)) clocks c.new-2.ensures.limits ∙ small)

pub loop-index-preserved : goal.loop-index-preserved
loop-index-preserved g c = c.take.ensures
