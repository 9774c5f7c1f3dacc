use Rattle.tried_audited.proofs.backends.made.Given as goal

-- the ledger of the blank that was just made
abbrev pub ghosts-made_on : goal.ghosts-made_on
ghosts-made_on a = record { name = a.blank.name; parts = a.blank.parts }
