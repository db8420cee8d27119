use Rattle.std.proofs.Common.{◌∷◌, [], ◌++◌, length, sym, subst}
use Rattle.event_core.specs.Verdict.{IsVerdict}
use Rattle.hb_clocks.specs.Counts.{counts_of}
use Rattle.access_check.proofs.VerdictLaws.{verdict_stands}
use Rattle.access_check.proofs.accesses.Accesses.verdict.Goals as goal

pub returns-clause-verdict : goal.returns-clause-verdict
returns-clause-verdict g c = λ log stands counted.
    subst (IsVerdict (log ++ c.args.event.now ∷ []) (length log)) (sym c.find.ensures)
    (verdict_stands log c.args.event.now c.args.self.now
    (counts_of (g.T.VectorTime.numbers c.args.clock.now)) stands counted)
