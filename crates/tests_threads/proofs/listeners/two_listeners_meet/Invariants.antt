use Rattle.tests_threads.proofs.listeners.two_listeners_meet.Given as goal

-- the ledger of the blank that was just made
abbrev pub ghosts-is_served : goal.ghosts-is_served
ghosts-is_served g a = record { name = a.blank.name; parts = a.blank.parts }
