use Rattle.allocations.proofs.made_of_lock.Given as goal

-- the ledgers of the blanks that were just made
abbrev pub ghosts-made : goal.ghosts-made
ghosts-made g a = record { name = a.blank.name; parts = a.blank.parts }

abbrev pub ghosts-made-2 : goal.ghosts-made-2
ghosts-made-2 g a = record { name = a.blank.name; parts = a.blank.parts }
