use Rattle.std.proofs.Common.{refl}
use Rattle.jm_listen.proofs.Ran.{one_message}
use Rattle.jm_listen.proofs.turns.turn.Goals as goal

pub returns-clause-turned : goal.returns-clause-turned
returns-clause-turned g c = record {
  session = refl;
  consumer = refl;
  turned = one_message c.args.job.now.session c.args.job.now.consumer c.args.job.now.pass c.take.new.pass c.end_delivery-accepted.new.pass c.follow.new.pass
      c.on_message-answer.result c.is_ok.result c.end_delivery-accepted.result c.call_after.result c.one_where.result
      c.in-Some.ensures c.is_ok.ensures.value c.end_delivery-accepted.ensures c.call_after.ensures c.follow.ensures c.one_where.ensures.count;
}
