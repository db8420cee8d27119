use Rattle.live_tests.proofs.example.run.Given as goal

-- the monitor that was just made
abbrev pub ghosts-two_stores : goal.ghosts-two_stores
ghosts-two_stores g a = record { table = a.unnamed.table; limits = a.unnamed.limits }
