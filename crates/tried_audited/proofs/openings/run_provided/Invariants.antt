use Rattle.tried_audited.proofs.openings.run_provided.Given as goal

-- the ledger of the blank that was just made
abbrev pub ghosts-provided : goal.ghosts-provided
ghosts-provided g a = record { name = a.blank.name; parts = a.blank.parts }
