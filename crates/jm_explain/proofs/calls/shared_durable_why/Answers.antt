use Rattle.std.proofs.Common.{sym}
use Rattle.jm_plans.specs.Provider.{state_of}
use Rattle.jm_explain.proofs.Requests.{shared_durable_is}
use Rattle.jm_explain.proofs.calls.shared_durable_why.Goals as goal

pub returns-clause-ok : goal.returns-clause-ok
returns-clause-ok c =
    shared_durable_is (state_of c.args.core.now) c.args.session.now c.args.id c.args.destination.now c.args.name.now c.args.selector.now c.in_ok-held.held.key c.wanted_why.result
    c.in_ok-held.ensures (sym c.in_default.ensures) c.wanted_why.ensures
