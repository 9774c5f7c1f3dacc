use Rattle.std.proofs.Common.{true}
use Rattle.jm_stations.specs.Backlogs.{any}
use Rattle.tests_stations.proofs.held.receive.Goals as goal

-- each message passes
pub receive-requires-clause-picked : goal.receive-requires-clause-picked
receive-requires-clause-picked c = (any, c.in_ok-picked.ensures.any)
