use Rattle.std.proofs.Common.{arith, ◌+◌, ◌∙◌, sym}
use Rattle.jm_lanes.specs.Lanes.{all_rows, rows_of}
use Rattle.jm_lane.proofs.Ranks.{ranked}
use Rattle.jm_lanes.proofs.Ranks.{below_sorted, at_sorted}
use Rattle.jm_lanes.proofs.lanes.row_at.Goals as goal

pub returns : goal.returns
returns c =
    let xs = all_rows c.args.lanes.now in
    let p = c.place_after.result in
    c.at.ensures ∙ sym (at_sorted p xs c.requires.rising) ∙ sym (ranked (rows_of c.args.lanes.now) p c.args.index c.requires.rising (omega (arith, below_sorted p xs c.requires.rising, c.place_after.ensures.low)) (omega (arith, below_sorted (p + 1) xs c.requires.rising, c.place_after.ensures.high)))
