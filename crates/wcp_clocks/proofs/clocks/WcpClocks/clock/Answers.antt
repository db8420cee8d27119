use Rattle.std.proofs.Common.{ap, ap₂, sym, subst, ◌∙◌}
use Rattle.event_core.specs.Rows.{Counted, join}
use Rattle.event_core.specs.Wcp.{Below}
use Rattle.wcp_clocks.specs.Parts.{Parts, state_of, hb_of}
use Rattle.wcp_clocks.proofs.BelowIsLatest.{below_latest}
use Rattle.wcp_clocks.proofs.clocks.WcpClocks.clock.Goals as goal

pub returns-clause-exact : goal.returns-clause-exact
returns-clause-exact c =
    c.new.ensures.counts
    ∙ ap₂ join c.strict.ensures.counts c.po.ensures.exact
    ∙ ap (λ (p : Parts). join ((state_of p).strict.thread c.args.thread.0) ((hb_of p).po c.args.thread.0))
    c.self.view_is

pub returns-clause-latest : goal.returns-clause-latest
returns-clause-latest c limits log j w st latest =
    subst (Counted log (λ i. Below log i j)) (sym (returns-clause-exact c))
    (below_latest limits log c.args.self.now c.args.thread j w st latest)
