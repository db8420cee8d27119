use Rattle.drive_tests.proofs.patience.tries_after.Given as goal

-- the monitor that was just made
abbrev pub ghosts-tries_made : goal.ghosts-tries_made
ghosts-tries_made g a = record { table = a.unnamed.table; limits = a.unnamed.limits }
