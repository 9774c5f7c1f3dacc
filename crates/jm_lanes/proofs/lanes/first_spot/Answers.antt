use Rattle.std.proofs.Common.{[], take, sym, subst}
use Rattle.jm_lane.specs.Rows.{is_ready}
use Rattle.jm_lane.specs.Lanes.{Lane, IsSoonestOf}
use Rattle.jm_lanes.specs.Lanes.{all_rows}
use Rattle.jm_lane.specs.Chosen.{row_of}
use Rattle.jm_lanes.proofs.Found.{all_rows_more}
use Rattle.jm_lanes.proofs.lanes.first_spot.Goals as goal

no_lane : Lane
no_lane = record { priority = 0; rows = []; spare = 0 }

pub loop-i-preserved : goal.loop-i-preserved
loop-i-preserved c =
    let lanes = c.args.lanes.now in
    let i = c.loop-i.i in
    record {
      spot = c.improve.ensures.spot;
      soonest = subst (λ rows. IsSoonestOf (is_ready c.args.now) rows (row_of c.improve.new.best)) (sym (all_rows_more lanes i no_lane c.loop-i-test.true)) (c.improve.ensures.soonest (all_rows (take i lanes)) no_lane c.loop-i.invariant.soonest);
    }
