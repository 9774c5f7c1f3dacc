use Rattle.std.proofs.Common.{sym, subst}
use Rattle.jm_machine.specs.Isolation.{Reached}
use Rattle.jm_core.proofs.provider.Core.copy.Goals as goal

pub invariant_of-result : goal.invariant_of-result
invariant_of-result c = subst Reached (sym c.in_ok-state.ensures) c.self.invariant
