use Rattle.jm_machine.proofs.Order.{reached_in_order, queues_in_order}
use Rattle.jm_plans.specs.Provider.{state_of}
use Rattle.jm_core.proofs.provider.law_rows_in_order.Goals as goal

pub returns-clause-ordered : goal.returns-clause-ordered
returns-clause-ordered c = rw (← c.core.view_is) (reached_in_order (state_of c.core.inside.state) c.core.invariant)

pub returns-clause-queued : goal.returns-clause-queued
returns-clause-queued c = rw (← c.core.view_is) (queues_in_order (state_of c.core.inside.state) c.core.invariant)
