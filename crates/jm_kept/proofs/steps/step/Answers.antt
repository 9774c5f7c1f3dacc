use Rattle.std.proofs.Common.{◌≡◌}
use Rattle.jm_base.specs.declared.refusal.Refusal.TheVariants.{Store}
use Rattle.jm_plans.specs.Provider.{state_of}
use Rattle.jm_kept.proofs.Refused.{fits_kept, never_store, refused_fits, step_never_store}
use Rattle.jm_kept.proofs.steps.step.Goals as goal

pub returns-in-Err-clause-fits : goal.returns-in-Err-clause-fits
returns-in-Err-clause-fits g c = refused_fits (state_of c.args.core.now) (state_of c.plan.new.self) c.args.step.now.who c.args.step.now.call c.in-Err.refusal c.in-Err.ensures.err c.in-Err.ensures.same

pub returns-in-Err-clause-store : goal.returns-in-Err-clause-store
returns-in-Err-clause-store g c = λ e.
    let is : c.in-Err.refusal ≡ Store = cc in
    absurd (never_store (state_of c.args.core.now) c.args.step.now.who c.args.step.now.call c.in-Err.refusal c.in-Err.ensures.err is)

-- a keeper that keeps nothing
pub returns-then-not-keeps-clause-fits : goal.returns-then-not-keeps-clause-fits
returns-then-not-keeps-clause-fits g c =
    fits_kept (state_of c.args.core.now) (state_of c.step_without_store.new.core) c.args.step.now.who c.args.step.now.call
    c.step_without_store.result c.step_without_store.ensures

pub returns-then-not-keeps-clause-store : goal.returns-then-not-keeps-clause-store
returns-then-not-keeps-clause-store g c = λ e.
    absurd (step_never_store (state_of c.args.core.now) (state_of c.step_without_store.new.core) c.args.step.now.who c.args.step.now.call
    c.step_without_store.result c.step_without_store.ensures e)
