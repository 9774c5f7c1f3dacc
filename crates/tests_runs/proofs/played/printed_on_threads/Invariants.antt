use Rattle.tests_runs.proofs.played.printed_on_threads.Given as goal

-- the ledger of the blank that was just made
abbrev pub ghosts-play_stored_on_threads : goal.ghosts-play_stored_on_threads
ghosts-play_stored_on_threads g a = record { name = a.blank.name; parts = a.blank.parts }
