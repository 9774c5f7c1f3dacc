use Rattle.std.proofs.Common.{Some}
use Rattle.jm_selector.proofs.Selectors.{fault_refused}
use Rattle.jm_selector.proofs.selector.tree_of.Goals as goal

pub returns-in-Err-clause-refused : goal.returns-in-Err-clause-refused
returns-in-Err-clause-refused c =
    rw (c.refusal_of.ensures, c.in-Some.is) (fault_refused (Some c.in-Some.text) c.in-Err.fault.at c.in-Err.fault.cause (rw c.as_str.ensures at c.in-Err.ensures.exact))
