use Rattle.tests_threads.proofs.callers.two_callers_meet.Given as goal

-- the ledger of the blank that was just made
abbrev pub ghosts-callers_meet : goal.ghosts-callers_meet
ghosts-callers_meet g a = record { name = a.blank.name; parts = a.blank.parts }
