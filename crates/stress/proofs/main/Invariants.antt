use Rattle.stress.proofs.main.Given as goal

-- the ledger of the blank that was just made
abbrev pub ghosts-stress : goal.ghosts-stress
ghosts-stress g a = record { name = a.blank.name; parts = a.blank.parts }
