use Rattle.jm_broker.proofs.Ends.{some_ends_late}
use Rattle.jm_broker.proofs.broker.Broker.cut.Goals as goal

pub returns : goal.returns
returns g c = some_ends_late g.C.PlannedCore.state g.K.Keep.is_clean g.K.Keep.stored c.deref_mut.result.now c.cut.result c.cut.ensures.refused
