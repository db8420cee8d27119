use Rattle.log_tests.proofs.passes.another_pass_finds_events_from_their_commit_on.Given as goal

-- the table that was just made
abbrev pub ghosts-look_at : goal.ghosts-look_at
ghosts-look_at g a = record { table = a.blank.table; limits = a.blank.limits }
