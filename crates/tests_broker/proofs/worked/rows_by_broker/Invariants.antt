use Rattle.tests_broker.proofs.worked.rows_by_broker.Given as goal

-- the ledger of the blank that was just made
abbrev pub ghosts-are_alike : goal.ghosts-are_alike
ghosts-are_alike g a = record { name = a.blank.name; parts = a.blank.parts }
