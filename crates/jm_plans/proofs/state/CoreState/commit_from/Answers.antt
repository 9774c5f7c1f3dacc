use Rattle.std.proofs.Common.{subst, Ok}
use Rattle.std.proofs.lemmas.Result.{err_from_is_err_and}
use Rattle.jm_machine.specs.declared.call.Call.TheVariants.{Commit}
use Rattle.jm_machine.specs.declared.call.Who.TheVariants.{Session}
use Rattle.jm_machine.specs.Machine.{State}
use Rattle.jm_plans.specs.Provider.{state_of}
use Rattle.jm_plans.specs.Steps.{CommitFits}
use Rattle.jm_plans.proofs.Planned.{commit_done, refused_fits}
use Rattle.jm_plans.proofs.state.CoreState.commit_from.Goals as goal

pub returns-in_err-change : goal.returns-in_err-change
returns-in_err-change c =
    let p = err_from_is_err_and c.from_residual.result c.from_residual.ensures.1 in
    let h = c.in_err-change.ensures in
    rw (p.1, p.2) (refused_fits _ _ (Session c.args.session.now) (Commit c.args.messages.now) c.in_err-change.field-0.0 h.0 h.1)

pub install-requires : goal.install-requires
install-requires c = (Session c.args.session.now, Commit c.args.messages.now, c.in_ok-change.ensures.1)

pub returns : goal.returns
returns c =
    let h = c.in_ok-change.ensures in
    let new = state_of c.install.new.self in
    let made = c.install.ensures (Session c.args.session.now) (Commit c.args.messages.now) h.1 in
    subst (λ (s : State). CommitFits s c.args.session.now c.args.messages.now (Ok tt) new) h.0 (commit_done _ new c.args.session.now c.args.messages.now c.install.result tt made)
