use Rattle.std.proofs.Common.{◌≡◌, ◌∙◌, false, refl, subst, sym, true}
use Rattle.std.proofs.lemmas.Result.{err_from_is_err_and}
use Rattle.jm_parts.specs.Named.{may_ask}
use Rattle.jm_plans.specs.Provider.{Provider, state_of}
use Rattle.jm_plans.proofs.Naming.{naming_illegal, naming_planned, naming_queue, naming_refused}
use Rattle.jm_plans.proofs.state.CoreState.plan_named.Goals as goal

pub returns-then-not-may_ask : goal.returns-then-not-may_ask
returns-then-not-may_ask c = λ request h.
    let asked = subst (λ (p : Provider). may_ask c.args.wanted.now.sharing p.known.life p.known.consumers c.args.session.now c.args.id ≡ false) c.self.view_is (sym c.may_ask.ensures ∙ c.if-not-may_ask.true) in
    (refl, naming_illegal (state_of c.args.self.now) c.args.session.now c.args.id c.args.wanted.now request h asked)

pub returns-in_default : goal.returns-in_default
returns-in_default c = λ request h.
    let asked = subst (λ (p : Provider). may_ask c.args.wanted.now.sharing p.known.life p.known.consumers c.args.session.now c.args.id ≡ true) c.self.view_is (sym c.may_ask.ensures ∙ c.if-not-may_ask.false) in
    (refl, naming_queue (state_of c.args.self.now) c.args.session.now c.args.id c.args.wanted.now request c.in_default.field-0 h asked c.in_default.is)

pub returns-in_err-source : goal.returns-in_err-source
returns-in_err-source c = λ request h.
    let p = err_from_is_err_and c.from_residual.result c.from_residual.ensures.1 in
    let n = c.in_err-source.ensures in
    let asked = subst (λ (p : Provider). may_ask c.args.wanted.now.sharing p.known.life p.known.consumers c.args.session.now c.args.id ≡ true) c.self.view_is (sym c.may_ask.ensures ∙ c.if-not-may_ask.false) in
    rw (p.1, p.2)
    (n.same, naming_refused (state_of c.args.self.now) c.args.session.now c.args.id c.args.wanted.now request c.in-Topic.topic c.in_err-source.field-0.0 h asked c.in-Topic.is n.err)

pub returns : goal.returns
returns c = λ request h.
    let n = c.in_ok-source.ensures in
    let asked = subst (λ (p : Provider). may_ask c.args.wanted.now.sharing p.known.life p.known.consumers c.args.session.now c.args.id ≡ true) c.self.view_is (sym c.may_ask.ensures ∙ c.if-not-may_ask.false) in
    (n.same, naming_planned (state_of c.args.self.now) c.prepare_named.new.self c.args.session.now c.args.id c.args.wanted.now request c.in-Topic.topic c.in_ok-source.source c.in_ok-source.decision n.same h asked c.in-Topic.is n.ok)
