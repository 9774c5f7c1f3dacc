use Rattle.std.proofs.Common.{refl}
use Rattle.jm_machine.specs.declared.call.Request.TheVariants.{CreateShared}
use Rattle.jm_plans.specs.Provider.{state_of}
use Rattle.jm_plans.proofs.Naming.{shared_naming}
use Rattle.jm_plans.proofs.state.CoreState.plan_shared.Goals as goal

pub returns : goal.returns
returns c = c.plan_named.ensures (CreateShared c.args.id c.args.destination.now c.args.name.now c.args.selector.now) (shared_naming (state_of c.args.self.now) c.args.session.now c.args.id _ refl refl)
