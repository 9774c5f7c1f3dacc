use Rattle.tried_audited.proofs.openings.run.Given as goal

-- the ledger of the blank that was just made
abbrev pub ghosts-opened : goal.ghosts-opened
ghosts-opened a = record { name = a.blank.name; parts = a.blank.parts }
