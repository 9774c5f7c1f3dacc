use Rattle.jm_law.proofs.OneConsumer.{one_consumer_each}
use Rattle.jm_law.proofs.law.law_one_consumer.Goals as goal

pub returns : goal.returns
returns c = one_consumer_each
