use Rattle.std.proofs.Common.{subst, Ok}
use Rattle.std.proofs.lemmas.Result.{err_from_is_err_and}
use Rattle.jm_machine.specs.declared.call.Call.TheVariants.{Ask}
use Rattle.jm_machine.specs.Machine.{State}
use Rattle.jm_plans.specs.Provider.{state_of}
use Rattle.jm_plans.specs.Steps.{StepFits}
use Rattle.jm_plans.proofs.Planned.{refused_fits}
use Rattle.jm_plans.proofs.state.CoreState.ask.Goals as goal

pub returns-in_err-change : goal.returns-in_err-change
returns-in_err-change c =
    let p = err_from_is_err_and c.from_residual.result c.from_residual.ensures.1 in
    let h = c.in_err-change.ensures in
    rw (p.1, p.2) (refused_fits _ _ c.args.who (Ask c.args.request.now) c.in_err-change.field-0.0 h.0 h.1)

pub install-requires : goal.install-requires
install-requires c = (c.args.who, (Ask c.args.request.now), c.in_ok-change.ensures.1)

pub returns : goal.returns
returns c =
    let h = c.in_ok-change.ensures in
    subst (λ (s : State). StepFits s c.args.who (Ask c.args.request.now) (Ok c.install.result) (state_of c.install.new.self)) h.0 (c.install.ensures c.args.who (Ask c.args.request.now) h.1)
