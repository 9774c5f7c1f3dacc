use Rattle.std.proofs.Common.{◌<◌, ◌≤◌, arith, subst, sym, get_or}
use Rattle.jm_stations.specs.Stations.{Stations}
use Rattle.tests_stations.proofs.loaded.load_at.Goals as goal

-- the room that was made is still there
pub load-requires-clause-rows : goal.load-requires-clause-rows
load-requires-clause-rows c = λ d.
    let room : 1 ≤ (get_or c.reserve.new.self.list 0 d).room = c.in_ok-reserve.ensures.rows 0 0 (omega arith) d in
    subst (λ (s : Stations). 0 < (get_or s.list 0 d).room) (sym c.skip_to.ensures) (omega (arith, room))
