use Rattle.jm_client.specs.Listening.{none, one_more}
use Rattle.jm_client.proofs.session.Session.handle_all.Goals as goal

pub loop-handled-init : goal.loop-handled-init
loop-handled-init g c = none

pub loop-handled-preserved : goal.loop-handled-preserved
loop-handled-preserved g c = one_more _ _ _ _ _ c.loop-handled.invariant (rw c.in-Ok-true.field-0-test at c.in-Ok-true.ensures)
