use Rattle.jm_plans.proofs.Planned.{of_parts}
use Rattle.jm_core.proofs.ReadKeys.{covered}
use Rattle.jm_core.proofs.reading.keys_len_in.Goals as goal

pub returns-clause-covers : goal.returns-clause-covers
returns-clause-covers c =
    let i = c.core.inside in
    let p = of_parts i.opening i.limit i.sessions i.subs i.stations i.queues in
    rw (← c.core.view_is) (covered i.limit i.stations.next_place p c.core.invariant.0)
