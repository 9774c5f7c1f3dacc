use Rattle.jm_plans.specs.Provider.{state_of}
use Rattle.jm_core.proofs.Reached.{run_reached, run_isolated}
use Rattle.jm_core.proofs.provider.Core.run.Goals as goal

pub invariant_of-self : goal.invariant_of-self
invariant_of-self c = run_reached (state_of c.self.inside.state) (state_of c.run_on.new.core) c.args.calls.items (λ replies. replies.items) c.run_on.result c.run_on.ensures.ok c.run_on.ensures.err c.self.invariant

pub returns-clause-isolated : goal.returns-clause-isolated
returns-clause-isolated c =
    rw (← c.self.view_is) (run_isolated (state_of c.self.inside.state) (state_of c.run_on.new.core) c.args.calls.items (λ replies. replies.items) c.run_on.result c.run_on.ensures.ok c.law_isolation_of_runs.ensures c.self.invariant)
