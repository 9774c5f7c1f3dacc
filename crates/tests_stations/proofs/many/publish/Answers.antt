use Rattle.std.specs.List.{IsDistinct}
use Rattle.tests_stations.proofs.many.publish.Goals as goal

-- the index stands once
pub publish_to-requires-clause-once : goal.publish_to-requires-clause-once
unfolding IsDistinct
publish_to-requires-clause-once c = (tt, tt)
