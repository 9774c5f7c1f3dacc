use Rattle.std.proofs.Common.{◌<◌, ◌+◌, ◌-◌, arith}
use Rattle.std.specs.Vec.{vec_capacity}
use Rattle.jm_stations.proofs.Rising.{rising_wider}
use Rattle.jm_stations.proofs.outstanding.Outstanding.add_list.Goals as goal

pub invariant_of-self : goal.invariant_of-self
invariant_of-self c =
    let room : 0 < vec_capacity c.self.inside.indexes - c.self.inside.number = rw (← c.self.view_is) at c.requires in
    (rising_wider 0 c.self.inside.number 0 (c.self.inside.number + 1) c.self.inside.indexes.items (omega arith) (omega arith) c.self.invariant.0, omega (arith, room))
