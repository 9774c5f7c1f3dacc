use Rattle.jm_plans.proofs.Answered.{planned_ok}
use Rattle.jm_listed.proofs.Calls.{planned_call}
use Rattle.jm_listed.proofs.listing.changes.Goals as goal

pub changes-requires-clause-planned : goal.changes-requires-clause-planned
changes-requires-clause-planned c = rw (c.new-planned.ensures.core, c.new-planned.ensures.plan) (planned_call c.args.core.now c.args.step.now.who c.args.step.now.call c.args.plan.now c.requires)

pub returns-clause-leads : goal.returns-clause-leads
returns-clause-leads c =
    let leads = rw c.new-planned.ensures.core at c.changes.ensures.leads in
    leads (planned_ok c.args.core.now c.args.step.now.who c.args.step.now.call c.args.plan.now c.requires)
