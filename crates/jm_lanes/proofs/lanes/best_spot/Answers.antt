use Rattle.std.proofs.Common.{[], take, sym, subst}
use Rattle.jm_lane.specs.Lanes.{Lane, IsSoonestOf}
use Rattle.jm_lanes.specs.Lanes.{all_rows}
use Rattle.jm_lane.specs.Chosen.{is_choice, row_of}
use Rattle.jm_selector.specs.Selectors.{matches}
use Rattle.jm_lanes.proofs.Found.{all_rows_more}
use Rattle.jm_lanes.proofs.lanes.best_spot.Goals as goal

no_lane : Lane
no_lane = record { priority = 0; rows = []; spare = 0 }

pub loop-i-preserved : goal.loop-i-preserved
loop-i-preserved c =
    let lanes = c.args.lanes.now in
    let i = c.loop-i.i in
    let choice = is_choice (matches c.args.selector.now) c.args.table.now c.args.now in
    record {
      spot = c.improve_where.ensures.spot;
      soonest = subst (λ rows. IsSoonestOf choice rows (row_of c.improve_where.new.best)) (sym (all_rows_more lanes i no_lane c.loop-i-test.true)) (c.improve_where.ensures.soonest (all_rows (take i lanes)) no_lane c.loop-i.invariant.soonest);
    }
