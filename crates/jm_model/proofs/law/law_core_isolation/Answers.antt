use Rattle.jm_model.proofs.law.law_core_isolation.Goals as goal

pub returns : goal.returns
returns c calls replies end fit key unshared numbers = c.law_isolation.ensures _ calls replies end key fit (record { unshared = unshared; numbers = numbers; reached = c.law_core_reached.ensures })
