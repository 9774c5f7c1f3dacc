use Rattle.jm_plans.specs.Provider.{state_of}
use Rattle.jm_core.proofs.Sends.{ask_fits}
use Rattle.jm_core.proofs.run.ask_and_drop.Goals as goal

pub returns-clause-owed : goal.returns-clause-owed
returns-clause-owed c = ask_fits (state_of c.args.core.now) c.args.halves.now c.drop_ended.new.halves c.args.who.now c.args.request.now c.ask-reply.result (state_of c.ask-reply.new.self) c.ask-reply.ensures c.drop_ended.ensures.sent c.drop_ended.ensures.kept
