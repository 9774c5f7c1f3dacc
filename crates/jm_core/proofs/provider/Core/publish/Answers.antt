use Rattle.std.proofs.Common.{◌∷◌, []}
use Rattle.jm_machine.specs.declared.call.Call.TheVariants.{Publish}
use Rattle.jm_machine.specs.declared.call.Who.TheVariants.{Session}
use Rattle.jm_plans.specs.Provider.{state_of}
use Rattle.jm_core.proofs.Reached.{step_reached}
use Rattle.jm_core.proofs.provider.Core.publish.Goals as goal

pub invariant_of-self : goal.invariant_of-self
invariant_of-self c =
    step_reached (state_of c.self.inside.state) (state_of c.publish.new.self) (Session c.args.session.now) (Publish (c.args.message ∷ [])) c.publish.result c.publish.ensures c.self.invariant
