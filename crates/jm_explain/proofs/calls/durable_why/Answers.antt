use Rattle.std.proofs.Common.{sym, ◌∙◌}
use Rattle.jm_plans.specs.Provider.{state_of}
use Rattle.jm_explain.proofs.Requests.{durable_is}
use Rattle.jm_explain.proofs.calls.durable_why.Goals as goal

pub returns-clause-ok : goal.returns-clause-ok
returns-clause-ok c =
    durable_is (state_of c.args.core.now) c.args.session.now c.args.id c.args.destination.now c.args.name.now c.args.selector.now c.args.no_local c.in_ok-held.held.key c.wanted_why.result
    c.in_ok-held.ensures (sym c.in_default.ensures) (sym c.has_client.ensures ∙ c.if-not-has_client.false) c.wanted_why.ensures
