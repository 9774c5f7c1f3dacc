use Rattle.std.proofs.Common.{refl}
use Rattle.std.specs.List.{IsDistinct}
use Rattle.tests_stations.proofs.steps.publish.Goals as goal

-- each index stands once
pub publish_to-requires-clause-once : goal.publish_to-requires-clause-once
unfolding IsDistinct
publish_to-requires-clause-once c = (tt, tt)

pub publish_to-requires-in-2-clause-once : goal.publish_to-requires-in-2-clause-once
unfolding IsDistinct
publish_to-requires-in-2-clause-once c = ((refl, tt), (tt, tt))

pub publish_to-requires-in_default-clause-once : goal.publish_to-requires-in_default-clause-once
unfolding IsDistinct
publish_to-requires-in_default-clause-once c = ((refl, (refl, tt)), ((refl, tt), (tt, tt)))
