use Rattle.std.proofs.Common.{◌≡◌, ℕ, ◌<◌, List, length, get_or, sym, subst, ◌∙◌}
use Rattle.std.proofs.lemmas.List.{get_or_default}
use Rattle.event_core.specs.declared.events.AccessKind.{AccessKind}
use Rattle.event_core.specs.declared.events.AccessKind.TheVariants.{Read, Write}
use Rattle.access_check.specs.declared.variable_accesses.VariableAccesses.{VariableAccesses}
use Rattle.access_check.specs.LastAccesses.{AreNarrow}
use Rattle.access_check.specs.VariableAccesses.{no_accesses, kept}
use Rattle.access_check.specs.Tables.{accesses_at}
use Rattle.access_check.proofs.tables.verdict_at_var.Goals as goal

-- the accesses that are read are those of the variable
narrow_at : (vars : List VariableAccesses) (x width : ℕ) (ts d : VariableAccesses) → ts ≡ get_or vars x d
    → x < length vars
    → ((y : ℕ) (k : AccessKind) → AreNarrow width (kept k (accesses_at vars y))) → (k : AccessKind)
    → AreNarrow width (kept k ts)
narrow_at vars x width ts d is lt narrow k =
    subst (λ (s : VariableAccesses). AreNarrow width (kept k s))
    (sym (is ∙ get_or_default vars x d no_accesses lt)) (narrow x k)

pub latest_racing-requires-clause-loads : goal.latest_racing-requires-clause-loads
latest_racing-requires-clause-loads g c =
    narrow_at c.args.vars.now c.args.var (length (g.T.VectorTime.numbers c.args.clock.now))
    c.index-vars-var.result _ c.index-vars-var.is c.if-vars-var.false c.requires Read

pub latest_racing-requires-clause-stores : goal.latest_racing-requires-clause-stores
latest_racing-requires-clause-stores g c =
    narrow_at c.args.vars.now c.args.var (length (g.T.VectorTime.numbers c.args.clock.now))
    c.index-vars-var.result _ c.index-vars-var.is c.if-vars-var.false c.requires Write
