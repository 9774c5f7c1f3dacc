use Rattle.jm_plans.proofs.state.CoreState.plan_consumer.Goals as goal

pub returns-in-Queue : goal.returns-in-Queue
returns-in-Queue c = rw c.in-Queue.is (c.plan_consumer_of.ensures c.args.no_local)
