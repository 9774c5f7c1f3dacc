use Rattle.jm_plans.specs.Provider.{state_of}
use Rattle.jm_core.proofs.Outstanding.{reached_open}
use Rattle.jm_core.proofs.provider.law_rows_out_to_open.Goals as goal

pub returns : goal.returns
returns c = rw (← c.core.view_is) (reached_open (state_of c.core.inside.state) c.core.invariant)
