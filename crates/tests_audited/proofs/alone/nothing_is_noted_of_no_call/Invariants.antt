use Rattle.tests_audited.proofs.alone.nothing_is_noted_of_no_call.Given as goal

-- the ledger of the blank that was just made
abbrev pub ghosts-is_empty : goal.ghosts-is_empty
ghosts-is_empty g a = record { name = a.blank.name; parts = a.blank.parts }
