use Rattle.std.proofs.Common.{◌∙◌, refl, sym}
use Rattle.std.proofs.lemmas.Result.{err_from_is_err_and}
use Rattle.jm_plans.specs.Provider.{state_of}
use Rattle.jm_plans.proofs.Planned.{not_stamped, stamped_still, unready}
use Rattle.jm_plans.proofs.state.CoreState.plan_publication_from.Goals as goal

pub returns-then-not-may_publish : goal.returns-then-not-may_publish
returns-then-not-may_publish c = (refl, not_stamped (state_of c.args.self.now) c.args.session.now c.args.messages.now (sym c.may_publish.ensures ∙ c.if-not-may_publish.true))

pub returns-in_err-publications : goal.returns-in_err-publications
returns-in_err-publications c =
    let p = err_from_is_err_and c.from_residual.result c.from_residual.ensures.1 in
    let h = c.in_err-publications.ensures in
    let stamped = sym c.may_publish.ensures ∙ c.if-not-may_publish.false in
    rw (p.1, p.2) (h.same, unready (state_of c.args.self.now) c.args.session.now c.args.messages.now c.in_err-publications.field-0.0 stamped h.err)

pub returns : goal.returns
returns c =
    let h = c.in_ok-publications.ensures in
    let stamped = sym c.may_publish.ensures ∙ c.if-not-may_publish.false in (
      h.same,
      record {
        session = c.args.session.now;
        messages = c.args.messages.now;
        sender = refl;
        asked = refl;
        stamped = stamped_still (state_of c.args.self.now) (state_of c.prepare_messages.new.self) c.args.session.now c.args.messages.now h.same stamped;
        prepared = h.ok;
      },
    )
