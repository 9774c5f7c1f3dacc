use Rattle.tests_audited.proofs.alone.a_service_is_audited.Given as goal

-- the ledger of the blank that was just made
abbrev pub ghosts-is_audited : goal.ghosts-is_audited
ghosts-is_audited g a = record { name = a.blank.name; parts = a.blank.parts }
