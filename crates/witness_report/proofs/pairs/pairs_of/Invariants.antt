use Rattle.std.proofs.Common.{◌≡◌, ◌≤◌, All, take}
use Rattle.witness_report.specs.declared.pairs.Pair.{Pair}
use Rattle.witness_report.specs.Pairs.{pairs_of}
use Rattle.witness_report.proofs.pairs.pairs_of.Given as goal

abbrev pub invariant-loop-race : goal.invariant-loop-race
invariant-loop-race l = record {
  pairs : l.pairs.items ≡ pairs_of l.log.events (take l.race-index l.races);
  few : All (λ (p : Pair). p.races ≤ l.race-index) (pairs_of l.log.events (take l.race-index l.races));
}
