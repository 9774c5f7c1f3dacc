use Rattle.tests_seats.proofs.scenarios.calls_on_threads_are_told_as_in_turn.Given as goal

-- the ledger of the blank that was just made
abbrev pub ghosts-is_told : goal.ghosts-is_told
ghosts-is_told g a = record { name = a.blank.name; parts = a.blank.parts }
