use Rattle.std.proofs.Common.{◌<◌, ◌≤◌, arith, get_or}
use Rattle.tried_state.proofs.stations.load.Goals as goal

-- the room that was made
pub load-requires-clause-rows : goal.load-requires-clause-rows
load-requires-clause-rows c = λ d.
    let room : 1 ≤ (get_or c.reserve.new.self.list 0 d).room = c.in_ok-reserve.ensures.rows 0 0 (omega arith) d in
    omega (arith, room)
