use Rattle.tried_listen.proofs.listeners.made.Given as goal

-- the ledger of the blank that was just made
abbrev pub ghosts-run : goal.ghosts-run
ghosts-run g a = record { name = a.blank.name; parts = a.blank.parts }
