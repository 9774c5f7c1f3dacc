use Rattle.std.proofs.Common.{◌≡◌, ◌≤◌}
use Rattle.std.specs.VecDeque.{deque_len, deque_capacity}
use Rattle.jm_lane.specs.Rows.{stays}
use Rattle.jm_lane.specs.Holders.{Follows, Covers}
use Rattle.jm_lane.proofs.Rolling.{IsRolled}
use Rattle.jm_lane.proofs.walks.drop_each.Given as goal

abbrev pub invariant-loop-turn : goal.invariant-loop-turn
invariant-loop-turn l = record {
  rolled : IsRolled (stays l.now) l.initial.rows.items l.rows.items l._turn;
  follows : Follows l.initial.table l.table l.initial.rows.items l.rows.items;
  covers : Covers l.table l.rows.items;
  room : deque_capacity l.rows ≡ deque_capacity l.initial.rows;
  len : deque_len l.rows ≤ deque_len l.initial.rows;
}
