use Rattle.std.proofs.Common.{arith}
use Rattle.jm_broker.proofs.broker.Broker.finish.Goals as goal

pub returns-clause-whole : goal.returns-clause-whole
returns-clause-whole g c = λ full. c.finish.ensures.whole (omega (arith, full, c.finish.ensures.parts.0, c.finish.ensures.parts.1))
