use Rattle.live_tests.proofs.threads.run.Given as goal

-- the monitor that was just made
abbrev pub ghosts-four_threads : goal.ghosts-four_threads
ghosts-four_threads g a = record { table = a.unnamed.table; limits = a.unnamed.limits }
