use Rattle.cases.proofs.told.Told.new.Given as goal

-- the ledger of the blank that was just made
abbrev pub ghosts-run_program : goal.ghosts-run_program
ghosts-run_program g a = record { name = a.blank.name; parts = a.blank.parts }
