use Rattle.std.proofs.Common.{arith}
use Rattle.jm_stations.proofs.Rising.{rising_few}
use Rattle.jm_stations.proofs.outstanding.Outstanding.reserve.Goals as goal

pub overflow_sub-self-inside : goal.overflow_sub-self-inside
overflow_sub-self-inside c = omega (arith, rising_few 0 c.self.inside.number c.self.inside.indexes.items c.self.invariant.0, c.len.ensures)
