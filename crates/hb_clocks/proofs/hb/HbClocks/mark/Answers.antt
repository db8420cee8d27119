use Rattle.std.proofs.lemmas.Grind.{common_steps}
use Rattle.std.proofs.Common.{arith}
use Rattle.hb_clocks.proofs.StandsForProperties.{names_latest}
use Rattle.hb_clocks.proofs.hb.HbClocks.mark.Goals as goal

pub returns-clause-exact : goal.returns-clause-exact
returns-clause-exact c = grind (arith, common_steps)

pub returns-clause-names : goal.returns-clause-names
returns-clause-names c log j st latest =
    names_latest log c.args.thread j c.new.result _ (returns-clause-exact c) (st.hb_own c.args.thread) latest
