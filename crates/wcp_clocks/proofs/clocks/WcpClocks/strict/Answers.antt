use Rattle.std.proofs.Common.{ap, sym, subst, ◌∙◌}
use Rattle.event_core.specs.Count.{Counts}
use Rattle.event_core.specs.Wcp.{Strict}
use Rattle.wcp_laws.proofs.ConditionsProperties.{strict_is_latest}
use Rattle.wcp_clocks.specs.Parts.{Parts, state_of}
use Rattle.wcp_clocks.specs.StrictRows.{strict_of}
use Rattle.wcp_clocks.proofs.clocks.WcpClocks.strict.Goals as goal

pub returns-clause-exact : goal.returns-clause-exact
returns-clause-exact c =
    c.at.ensures
    ∙ c.strict.ensures.at c.args.other.0
    ∙ ap (λ (p : Parts). (strict_of p.rows).thread c.args.thread.0 c.args.other.0) c.self.view_is

pub returns-clause-latest : goal.returns-clause-latest
returns-clause-latest c limits log j w st latest =
    subst (Counts log c.args.other (λ i. Strict log i j)) (sym (returns-clause-exact c))
    (strict_is_latest limits log (state_of c.args.self.now) j c.args.thread c.args.other w st.strict
    latest.of latest.last)
