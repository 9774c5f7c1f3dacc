use Rattle.std.proofs.Common.{◌≡◌, ◌++◌, take, drop, map}
use Rattle.std.specs.List.{All}
use Rattle.std.specs.VecDeque.{deque_len, deque_capacity}
use Rattle.jm_lane.specs.Rows.{back, is_among}
use Rattle.jm_lane.specs.Lanes.{IsBound, IsDueBound}
use Rattle.jm_lane.proofs.walks.give_back_front.Given as goal

abbrev pub invariant-loop-i : goal.invariant-loop-i
invariant-loop-i l = record {
  items : l.rows.items ≡ map (back (is_among l.outs)) (take l.i l.initial.rows.items) ++ drop l.i l.initial.rows.items;
  bound : All (IsBound l.least) l.rows.items;
  due : All (IsDueBound l.due) l.rows.items;
  room : deque_capacity l.rows ≡ deque_capacity l.initial.rows;
  len : deque_len l.rows ≡ deque_len l.initial.rows;
}
