use Rattle.tried_audited.proofs.backends.made_at_the_end.Given as goal

-- the ledger of the blank that was just made
abbrev pub ghosts-run : goal.ghosts-run
ghosts-run a = record { name = a.blank.name; parts = a.blank.parts }
