use Rattle.std.proofs.Common.{◌∷◌, []}
use Rattle.jm_plans.specs.Provider.{state_of}
use Rattle.jm_machine.specs.declared.call.Call.TheVariants.{Publish}
use Rattle.jm_machine.specs.declared.call.Who.TheVariants.{Session}
use Rattle.jm_kept.proofs.Refused.{fits_kept, step_never_store}
use Rattle.jm_kept.proofs.steps.publish.Goals as goal

-- a keeper that keeps nothing
pub returns-then-not-keeps-clause-fits : goal.returns-then-not-keeps-clause-fits
returns-then-not-keeps-clause-fits g c =
    fits_kept (state_of c.args.core.now) (state_of c.publish.new.self) (Session c.args.session) (Publish (c.args.message ∷ []))
    c.publish.result c.publish.ensures

pub returns-then-not-keeps-clause-store : goal.returns-then-not-keeps-clause-store
returns-then-not-keeps-clause-store g c = λ e.
    absurd (step_never_store (state_of c.args.core.now) (state_of c.publish.new.self) (Session c.args.session) (Publish (c.args.message ∷ []))
    c.publish.result c.publish.ensures e)
