use Rattle.std.proofs.Common.{sym, subst}
use Rattle.jm_machine.specs.Isolation.{Reached}
use Rattle.jm_core.proofs.provider.Core.plan.Goals as goal

pub invariant_of-self : goal.invariant_of-self
invariant_of-self c = subst Reached (sym c.in_err-change.ensures.0) c.self.invariant

pub invariant_of-self-2 : goal.invariant_of-self-2
invariant_of-self-2 c = subst Reached (sym c.in_ok-change.ensures.0) c.self.invariant
