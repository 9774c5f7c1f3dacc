use Rattle.jm_plans.specs.Provider.{state_of}
use Rattle.jm_core.proofs.Within.{reached_within}
use Rattle.jm_core.proofs.provider.law_rows_within_limit.Goals as goal

pub returns : goal.returns
returns c = rw (← c.core.view_is) (reached_within (state_of c.core.inside.state) c.core.invariant)
