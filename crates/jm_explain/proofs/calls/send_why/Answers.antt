use Rattle.std.proofs.Common.{rules}
use Rattle.jm_plans.specs.Provider.{state_of}
use Rattle.jm_explain.proofs.Stamps.{publish_is}
use Rattle.jm_explain.proofs.calls.send_why.Goals as goal

pub returns : goal.returns
returns c = publish_is (state_of c.args.core.now) c.args.session.now c.args.sender.now c.first_why.result (search rules)
