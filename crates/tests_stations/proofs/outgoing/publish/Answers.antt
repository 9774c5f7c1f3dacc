use Rattle.std.proofs.Common.{refl}
use Rattle.std.specs.List.{IsDistinct}
use Rattle.tests_stations.proofs.outgoing.publish.Goals as goal

-- each index stands once
pub publish_to-requires-clause-once : goal.publish_to-requires-clause-once
unfolding IsDistinct
publish_to-requires-clause-once c = ((refl, tt), (tt, tt))
