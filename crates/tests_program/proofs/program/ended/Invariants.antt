use Rattle.tests_program.proofs.program.ended.Given as goal

-- the ledger of the blank that was just made
abbrev pub ghosts-perform : goal.ghosts-perform
ghosts-perform g a = record { name = a.blank.name; parts = a.blank.parts }
