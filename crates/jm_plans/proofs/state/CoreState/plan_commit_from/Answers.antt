use Rattle.std.proofs.Common.{◌∙◌, refl, sym}
use Rattle.std.proofs.lemmas.Result.{err_from_is_err_and}
use Rattle.jm_plans.specs.Provider.{state_of}
use Rattle.jm_plans.proofs.Planned.{not_committed, committing_still, commit_unready}
use Rattle.jm_plans.proofs.state.CoreState.plan_commit_from.Goals as goal

pub returns-then-not-may_commit : goal.returns-then-not-may_commit
returns-then-not-may_commit c = (refl, not_committed (state_of c.args.self.now) c.args.session.now c.args.messages.now (sym c.may_commit.ensures ∙ c.if-not-may_commit.true))

pub returns-in_err-sent : goal.returns-in_err-sent
returns-in_err-sent c =
    let p = err_from_is_err_and c.from_residual.result c.from_residual.ensures.1 in
    let h = c.in_err-sent.ensures in
    let stamped = sym c.may_commit.ensures ∙ c.if-not-may_commit.false in
    rw (p.1, p.2) (h.same, commit_unready (state_of c.args.self.now) c.args.session.now c.args.messages.now c.in_err-sent.field-0.0 stamped h.err)

pub returns : goal.returns
returns c =
    let h = c.in_ok-sent.ensures in
    let stamped = sym c.may_commit.ensures ∙ c.if-not-may_commit.false in (
      h.same,
      record {
        messages = c.args.messages.now;
        sender = refl;
        asked = refl;
        stamped = committing_still (state_of c.args.self.now) (state_of c.prepare_messages.new.self) c.args.session.now c.args.messages.now h.same stamped;
        prepared = h.ok;
      },
    )
