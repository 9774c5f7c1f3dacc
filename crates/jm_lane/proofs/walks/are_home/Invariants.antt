use Rattle.std.proofs.Common.{◌≡◌, take, false}
use Rattle.std.specs.List.{list_any}
use Rattle.jm_lane.proofs.Home.{is_away}
use Rattle.jm_lane.proofs.walks.are_home.Given as goal

abbrev pub invariant-loop-i : goal.invariant-loop-i
invariant-loop-i l = list_any is_away (take l.i l.rows.items) ≡ false
