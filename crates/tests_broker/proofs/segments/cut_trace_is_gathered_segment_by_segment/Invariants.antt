use Rattle.tests_broker.proofs.segments.cut_trace_is_gathered_segment_by_segment.Given as goal

-- the ledger of the blank that was just made
abbrev pub ghosts-is_cut_twice : goal.ghosts-is_cut_twice
ghosts-is_cut_twice g a = record { name = a.blank.name; parts = a.blank.parts }
