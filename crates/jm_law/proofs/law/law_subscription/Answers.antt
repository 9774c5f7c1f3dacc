use Rattle.jm_law.proofs.Subscribed.{subscription_keeps}
use Rattle.jm_law.proofs.law.law_subscription.Goals as goal

pub returns : goal.returns
returns c = subscription_keeps
