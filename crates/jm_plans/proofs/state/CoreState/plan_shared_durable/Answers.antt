use Rattle.std.proofs.Common.{refl}
use Rattle.jm_machine.specs.declared.call.Request.TheVariants.{CreateSharedDurable}
use Rattle.jm_plans.specs.Provider.{state_of}
use Rattle.jm_plans.proofs.Naming.{shared_durable_naming}
use Rattle.jm_plans.proofs.state.CoreState.plan_shared_durable.Goals as goal

pub returns : goal.returns
returns c = c.plan_named.ensures (CreateSharedDurable c.args.id c.args.destination.now c.args.name.now c.args.selector.now) (shared_durable_naming (state_of c.args.self.now) c.args.session.now c.args.id _ refl refl)
