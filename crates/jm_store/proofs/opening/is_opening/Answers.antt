use Rattle.std.proofs.Common.{arith}
use Rattle.jm_store.proofs.opening.is_opening.Goals as goal

pub returns : goal.returns
returns c = record { positive = c.requires; within = omega (arith, c.ranges.opening) }
