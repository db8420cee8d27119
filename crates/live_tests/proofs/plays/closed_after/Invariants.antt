use Rattle.live_tests.proofs.plays.closed_after.Given as goal

-- the monitor that was just made
abbrev pub ghosts-closed_as : goal.ghosts-closed_as
ghosts-closed_as g a = record { table = a.unnamed.table; limits = a.unnamed.limits }
