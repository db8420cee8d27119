use Rattle.log_tests.proofs.threads.looks_never_go_back.Given as goal

-- the table that was just made
abbrev pub ghosts-eight_threads_look : goal.ghosts-eight_threads_look
ghosts-eight_threads_look g a = record { table = a.blank.table; limits = a.blank.limits }
