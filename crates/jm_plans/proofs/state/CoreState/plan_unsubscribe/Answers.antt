use Rattle.std.proofs.Common.{◌∙◌, refl, sym}
use Rattle.std.proofs.lemmas.Result.{err_from_is_err_and}
use Rattle.jm_plans.specs.Provider.{state_of}
use Rattle.jm_plans.proofs.Planned.{delete_closed, delete_wants, of_parts}
use Rattle.jm_plans.proofs.PlansNamed.{delete_planned, delete_refused}
use Rattle.jm_plans.proofs.state.CoreState.plan_unsubscribe.Goals as goal

pub returns-then-not-is_open : goal.returns-then-not-is_open
returns-then-not-is_open c =
    let i = c.self.inside in
    let closed = sym c.is_open.ensures ∙ c.if-not-is_open.true in
    rw (← c.self.view_is) (refl, delete_closed (state_of (of_parts i.opening i.limit i.sessions i.subs i.stations i.queues)) c.args.session.now c.args.name.now closed)

pub returns-in_err-key : goal.returns-in_err-key
returns-in_err-key c =
    let p = err_from_is_err_and c.from_residual.result c.from_residual.ensures.1 in
    let i = c.self.inside in
    let opened = sym c.is_open.ensures ∙ c.if-not-is_open.false in
    rw (p.1, ← c.self.view_is) (refl, delete_wants (state_of (of_parts i.opening i.limit i.sessions i.subs i.stations i.queues)) c.args.session.now c.args.name.now p.0 opened p.2)

pub returns-in_err-decide_unsubscribe : goal.returns-in_err-decide_unsubscribe
returns-in_err-decide_unsubscribe c =
    let p = err_from_is_err_and c.from_residual-in_err-decide_unsubscribe.result c.from_residual-in_err-decide_unsubscribe.ensures.1 in
    let i = c.self.inside in
    let opened = sym c.is_open.ensures ∙ c.if-not-is_open.false in
    rw (p.1, p.2, ← c.self.view_is) (
      refl,
      delete_refused i.limit i.stations.next_place (of_parts i.opening i.limit i.sessions i.subs i.stations i.queues) c.args.session.now c.args.name.now c.in_ok-key.key c.is_idle-is_idle.result c.is_home-is_home.result
          c.in_err-decide_unsubscribe.field-0.0 c.in_ok-key.ensures c.is_idle-is_idle.ensures c.is_home-is_home.ensures c.self.invariant.0 opened c.in_err-decide_unsubscribe.ensures,
    )

pub returns : goal.returns
returns c =
    let i = c.self.inside in
    let opened = sym c.is_open.ensures ∙ c.if-not-is_open.false in
    rw (c.into_key.ensures, ← c.self.view_is) (
      refl,
      delete_planned i.limit i.stations.next_place (of_parts i.opening i.limit i.sessions i.subs i.stations i.queues) c.args.session.now c.args.name.now c.in_ok-key.key c.is_idle-is_idle.result c.is_home-is_home.result
          c.in_ok-key.ensures c.is_idle-is_idle.ensures c.is_home-is_home.ensures c.self.invariant.0 opened c.in_ok-decide_unsubscribe.ensures,
    )
