use Rattle.jm_indexed.proofs.key_map.KeyMap.retain.Goals as goal

pub keep_entries-requires : goal.keep_entries-requires
keep_entries-requires g c = c.self.invariant

pub invariant_of-self : goal.invariant_of-self
invariant_of-self g c = c.keep_entries.ensures.indexed

pub returns-clause-entries : goal.returns-clause-entries
returns-clause-entries g c = rw (← c.self.view_is) c.keep_entries.ensures.entries
