use Rattle.std.proofs.Common.{rules, sym, arith}
use Rattle.std.proofs.lemmas.List.Sorted.{IsPartitionPoint-from_clause}
use Rattle.jm_lane.specs.Lanes.{is_below}
use Rattle.jm_lane.proofs.Ranks.{parted, below_parts}
use Rattle.jm_lane.proofs.lane.Lane.below.Goals as goal

pub returns : goal.returns
returns c =
    let rows = c.self.inside.rows.items in
    rw (← c.self.view_is) (sym (parted (is_below c.args.place) rows c.partition_point.result (omega (arith, c.partition_point.ensures.bound)) (IsPartitionPoint-from_clause (is_below c.args.place) rows c.partition_point.result c.partition_point.ensures.partitioned (below_parts c.args.place rows c.self.invariant.lane.rising) (λ a r f' k. search rules))))
