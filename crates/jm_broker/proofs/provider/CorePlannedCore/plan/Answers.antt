use Rattle.jm_plans.specs.Provider.{state_of}
use Rattle.jm_broker.proofs.Refused.{made_or_wanted, not_store}
use Rattle.jm_broker.proofs.provider.CorePlannedCore.plan.Goals as goal

pub returns-clause-err : goal.returns-clause-err
returns-clause-err c = made_or_wanted (state_of c.args.self.now) c.args.step.now c.plan.result c.plan.ensures.err

pub returns-clause-no_store : goal.returns-clause-no_store
returns-clause-no_store c = not_store (state_of c.args.self.now) c.args.step.now c.plan.result c.plan.ensures.err
