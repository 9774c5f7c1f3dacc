use Rattle.std.proofs.Common.{refl}
use Rattle.jm_machine.specs.declared.call.Request.TheVariants.{CreateDurable}
use Rattle.jm_plans.specs.Provider.{state_of}
use Rattle.jm_plans.proofs.Naming.{durable_naming}
use Rattle.jm_plans.proofs.state.CoreState.plan_durable.Goals as goal

pub returns : goal.returns
returns c = c.plan_named.ensures (CreateDurable c.args.id c.args.destination.now c.args.name.now c.args.selector.now c.args.no_local) (durable_naming (state_of c.args.self.now) c.args.session.now c.args.id _ refl)
