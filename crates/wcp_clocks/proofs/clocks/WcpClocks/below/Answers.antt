use Rattle.std.proofs.Common.{max, ap, ap₂, sym, subst, ◌∙◌}
use Rattle.event_core.specs.Count.{Counts}
use Rattle.event_core.specs.Wcp.{Below}
use Rattle.wcp_clocks.specs.Parts.{Parts, hb_of}
use Rattle.wcp_clocks.proofs.BelowIsLatest.{below_latest}
use Rattle.wcp_clocks.proofs.clocks.WcpClocks.below.Goals as goal

pub returns-clause-exact : goal.returns-clause-exact
returns-clause-exact c =
    let t = c.args.thread.0 in
    let u = c.args.other.0 in
    c.max.ensures
    ∙ ap₂ max c.strict.ensures.exact
    (c.at.ensures ∙ ap (λ f. f u) c.po.ensures.exact
    ∙ ap (λ (p : Parts). (hb_of p).po t u) c.self.view_is)

pub returns-clause-latest : goal.returns-clause-latest
returns-clause-latest c limits log j w st latest =
    subst (Counts log c.args.other (λ i. Below log i j)) (sym (returns-clause-exact c))
    (below_latest limits log c.args.self.now c.args.thread j w st latest c.args.other)
