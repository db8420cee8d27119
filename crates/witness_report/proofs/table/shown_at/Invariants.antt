use Rattle.std.proofs.Common.{◌≡◌}
use Rattle.witness_report.proofs.table.shown_at.Given as goal

abbrev pub invariant-loop-race : goal.invariant-loop-race
invariant-loop-race l = l.searcher ≡ l.fn.searcher
