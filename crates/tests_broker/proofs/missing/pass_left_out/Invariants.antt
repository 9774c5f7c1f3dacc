use Rattle.tests_broker.proofs.missing.pass_left_out.Given as goal

-- the ledger of the blank that was just made
abbrev pub ghosts-is_missed : goal.ghosts-is_missed
ghosts-is_missed g a = record { name = a.blank.name; parts = a.blank.parts }
