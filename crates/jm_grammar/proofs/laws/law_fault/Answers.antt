use Rattle.jm_grammar.proofs.Agreement.{fault_some, fault_none}
use Rattle.jm_grammar.proofs.laws.law_fault.Goals as goal

pub returns : goal.returns
returns c = record { some = fault_some; none = fault_none }
