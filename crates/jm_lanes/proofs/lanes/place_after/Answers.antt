use Rattle.std.proofs.Common.{arith}
use Rattle.jm_lanes.specs.Lanes.{all_rows}
use Rattle.jm_lane.proofs.Ranks.{none_below, all_below}
use Rattle.jm_lanes.proofs.lanes.place_after.Goals as goal

pub loop-high-init : goal.loop-high-init
loop-high-init c =
    record {
      apart = omega arith;
      top = omega arith;
      few = omega (arith, none_below 0 (all_rows c.args.lanes.now) (λ k d l. omega arith));
      more = omega (arith, all_below 9223372036854775808 (all_rows c.args.lanes.now) c.requires.bounded, c.requires.some);
    }
