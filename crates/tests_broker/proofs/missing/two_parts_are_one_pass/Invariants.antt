use Rattle.tests_broker.proofs.missing.two_parts_are_one_pass.Given as goal

-- the ledger of the blank that was just made
abbrev pub ghosts-hands_out_one : goal.ghosts-hands_out_one
ghosts-hands_out_one g a = record { name = a.blank.name; parts = a.blank.parts }
