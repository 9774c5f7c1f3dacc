use Rattle.std.proofs.Common.{sym}
use Rattle.jm_plans.specs.Provider.{state_of}
use Rattle.jm_explain.proofs.Requests.{unsubscribe_is}
use Rattle.jm_explain.proofs.calls.unsubscribe_why.Goals as goal

pub returns-clause-ok : goal.returns-clause-ok
returns-clause-ok c = unsubscribe_is (state_of c.args.core.now) c.args.session.now c.args.name.now c.in_ok-held.held.key c.delete_why.result c.in_ok-held.ensures (sym c.in_default.ensures) c.delete_why.ensures
