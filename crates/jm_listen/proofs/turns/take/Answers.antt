use Rattle.std.proofs.Common.{subst}
use Rattle.jm_machine.specs.declared.call.Step.{Step}
use Rattle.jm_broker.specs.Calls.{Noted}
use Rattle.jm_listen.proofs.turns.take.Goals as goal

pub returns : goal.returns
returns g c =
    let P : Step → Type 0 = λ step. Noted c.args.pass.now c.call-reply.new.pass step c.call-reply.result in
    record {
      now = c.now-now.result;
      reply = c.call-reply.result;
      noted = subst P c.step_of-step.ensures c.call-reply.ensures;
      is = c.delivery_of.ensures;
    }
