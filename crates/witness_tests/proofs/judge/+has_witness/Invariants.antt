use Rattle.witness_tests.proofs.judge.+has_witness.Given as goal

abbrev pub decreases-has_witness : goal.decreases-has_witness
decreases-has_witness l = l.more
