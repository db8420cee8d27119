use Rattle.std.proofs.Common.{ℕ, sym, ap, subst}
use Rattle.event_core.specs.Rows.{Counted}
use Rattle.section_sum.specs.Paired.{IsBelowPaired}
use Rattle.wcp_clocks.specs.MetReleases.{together, IsBelowSource}
use Rattle.wcp_clocks.specs.Standing.{StandsFor}
use Rattle.wcp_clocks.proofs.MetReleases.{sources_count, sources_paired}
use Rattle.wcp_clocks.proofs.PartsWithin.{within}
use Rattle.wcp_clocks.proofs.clocks.WcpClocks.sources.Goals as goal

pub returns-clause-paired : goal.returns-clause-paired
returns-clause-paired c log e is held stands =
    subst (λ (f : ℕ → ℕ). Counted log (IsBelowPaired log e c.args.lock) f)
    (sym (ap together c.sources_under.ensures.rest))
    (sources_paired log e (within c.self.inside) c.args.thread c.args.lock c.args.var c.args.kind is held
    (subst (StandsFor log) (sym c.self.view_is) stands))

pub returns-clause-counted : goal.returns-clause-counted
returns-clause-counted c log stands =
    subst (λ (f : ℕ → ℕ). Counted log (IsBelowSource log c.args.lock c.args.var c.args.kind c.args.thread) f)
    (sym (ap together c.sources_under.ensures.rest))
    (sources_count log (within c.self.inside) c.args.lock c.args.var c.args.kind c.args.thread
    (subst (StandsFor log) (sym c.self.view_is) stands))
