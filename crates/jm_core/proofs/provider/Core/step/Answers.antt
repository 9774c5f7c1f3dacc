use Rattle.std.proofs.Common.{subst, Ok}
use Rattle.std.proofs.lemmas.Result.{err_from_is_err_and}
use Rattle.jm_machine.specs.Machine.{State}
use Rattle.jm_plans.specs.Provider.{state_of}
use Rattle.jm_plans.specs.Steps.{StepFits}
use Rattle.jm_plans.proofs.Planned.{refused_fits}
use Rattle.jm_core.proofs.provider.Core.step.Goals as goal

pub returns-in_err-plan : goal.returns-in_err-plan
returns-in_err-plan c =
    let p = err_from_is_err_and c.from_residual.result c.from_residual.ensures.1 in
    let h = c.in_err-plan.ensures in
    rw (p.1, p.2) (refused_fits _ _ c.args.step.now.who c.args.step.now.call c.in_err-plan.field-0.0 h.same h.err)

pub install-requires : goal.install-requires
install-requires c = (c.args.step.now.who, c.args.step.now.call, c.in_ok-plan.ensures.ok)

pub returns : goal.returns
returns c =
    let h = c.in_ok-plan.ensures in
    subst (λ (s : State). StepFits s c.args.step.now.who c.args.step.now.call (Ok c.install.result) (state_of c.install.new.self)) h.same (c.install.ensures c.args.step.now.who c.args.step.now.call h.ok)
