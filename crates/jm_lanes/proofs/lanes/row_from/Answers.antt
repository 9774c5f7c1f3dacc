use Rattle.std.proofs.Common.{◌<◌, ◌∙◌, sym}
use Rattle.jm_dest.specs.Numbers.{long_end}
use Rattle.jm_lane.specs.declared.row.Row.{Row}
use Rattle.jm_lanes.specs.Lanes.{all_rows, rows_of}
use Rattle.jm_lanes.proofs.Places.{all_sorted}
use Rattle.jm_lanes.proofs.Ranks.{at_sorted}
use Rattle.jm_lane.proofs.From.{first_from}
use Rattle.jm_lanes.proofs.From.{sorted_from}
use Rattle.jm_lanes.proofs.lanes.row_from.Goals as goal

pub returns : goal.returns
returns c =
    let xs = all_rows c.args.lanes.now in
    let q = c.place_from.result in
    c.at.ensures ∙ sym (at_sorted q xs c.requires.rising) ∙ first_from c.args.place q (rows_of c.args.lanes.now) c.requires.rising (all_sorted (λ (r : Row). r.place < long_end) xs c.requires.bounded) (sorted_from c.args.place q xs c.requires.rising c.place_from.ensures)
