use Rattle.std.proofs.Common.{false}
use Rattle.jm_stations.specs.Backlogs.{any}
use Rattle.tests_stations.proofs.outgoing.deliver.Goals as goal

-- each message passes
pub deliver-requires-clause-picked : goal.deliver-requires-clause-picked
deliver-requires-clause-picked c = (any, c.in_ok-picked.ensures.any)
