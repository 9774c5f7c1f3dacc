use Rattle.std.proofs.Common.{sym, subst}
use Rattle.jm_machine.specs.Isolation.{Reached}
use Rattle.jm_machine.specs.Isolation.Reached.{New}
use Rattle.jm_core.proofs.provider.Core.new.Goals as goal

pub invariant_of-result : goal.invariant_of-result
invariant_of-result c = subst Reached (sym c.in_ok-state.ensures.0) (New c.args.opening c.args.held_limit)
