use Rattle.std.proofs.Common.{Some, None, refl}
use Rattle.jm_lane.specs.Chosen.{row_of}
use Rattle.jm_lane.specs.Rows.{is_ready}
use Rattle.jm_lane.proofs.Choice.{found_better}
use Rattle.jm_lanes.proofs.lanes.improve.Goals as goal

pub returns-in-Some-clause-soonest : goal.returns-in-Some-clause-soonest
returns-in-Some-clause-soonest c = λ rows d before.
    found_better (is_ready c.args.now) c.args.lanes.now c.args.at c.first_ready-index.result d c.index-lanes-at.result (row_of c.args.best.now) (row_of c.args.best.now) c.get.result (Some c.in-Some.row) rows c.requires.at c.index-lanes-at.is refl c.get.ensures.row c.in-Some.is c.first_ready-index.ensures.soonest before

pub returns-in_default-clause-soonest : goal.returns-in_default-clause-soonest
returns-in_default-clause-soonest c = λ rows d before.
    found_better (is_ready c.args.now) c.args.lanes.now c.args.at c.first_ready-index.result d c.index-lanes-at.result (row_of c.args.best.now) (row_of c.args.best.now) c.get.result None rows c.requires.at c.index-lanes-at.is refl c.get.ensures.row c.in_default.is c.first_ready-index.ensures.soonest before
