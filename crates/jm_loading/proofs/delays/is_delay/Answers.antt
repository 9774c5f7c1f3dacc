use Rattle.jm_loading.proofs.Paired.{delay_test}
use Rattle.jm_loading.proofs.delays.is_delay.Goals as goal

pub returns-in-Some : goal.returns-in-Some
returns-in-Some c = delay_test c.args.messages.now c.args.delay c.in-Some.at c.index-messages-at.result c.is_due.result c.requires c.in-Some.ensures.within c.index-messages-at.is c.in-Some.ensures.there c.is_due.ensures
