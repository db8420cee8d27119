use Rattle.std.proofs.Common.{◌≡◌, All, take}
use Rattle.witness_report.specs.Found.{IsRow, pairs_in}
use Rattle.witness_report.proofs.table.rows_of.Given as goal

abbrev pub invariant-loop-pair : goal.invariant-loop-pair
invariant-loop-pair l = record {
  searcher : l.searcher ≡ l.fn.searcher;
  pairs : pairs_in l.rows.items ≡ take l.pair-index l.pairs;
  each : All (IsRow l.fn.searcher.limits l.log.events l.races) l.rows.items;
}
