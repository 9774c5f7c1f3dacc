use Rattle.std.proofs.Common.{◌≡◌, ◌<◌, false, arith, sym, subst}
use Rattle.std.proofs.lemmas.List.Elements.{All-weaker}
use Rattle.jm_lane.specs.Rows.{is_ready}
use Rattle.jm_lane.specs.Lanes.{IsSoonestOf}
use Rattle.jm_lane.specs.Chosen.{goes_before, is_better, is_choice, passes, row_of}
use Rattle.jm_selector.specs.Selectors.{matches}
use Rattle.jm_lane.proofs.Rising.{get_found}
use Rattle.jm_lane.proofs.Soonest.{lane_soonest, none_soonest}
use Rattle.jm_lane.proofs.Choice.{fails_left, fails_right}
use Rattle.jm_lane.proofs.Dues.{none_ready}
use Rattle.jm_lane.proofs.lane.Lane.first_choice.Goals as goal

pub first_choice-requires-clause-same : goal.first_choice-requires-clause-same
first_choice-requires-clause-same c = (c.self.inside.priority, c.self.invariant.lane.same)

pub returns-clause-soonest : goal.returns-clause-soonest
returns-clause-soonest c =
    let rows = c.self.inside.rows.items in
    let test = is_better (row_of c.args.best.now) (matches c.args.selector.now) c.args.table.now c.args.now in
    let is = get_found test rows c.first_choice.result c.first_choice.ensures.before c.first_choice.ensures.found in
    rw (← c.self.view_is) (subst (IsSoonestOf test rows) (sym is) (lane_soonest test rows c.self.inside.priority c.self.invariant.lane.same c.self.invariant.lane.rising))

pub returns-then-get-self-clause-soonest : goal.returns-then-get-self-clause-soonest
returns-then-get-self-clause-soonest c =
    let best = row_of c.args.best.now in
    let p = matches c.args.selector.now in
    let rows = c.self.inside.rows.items in
    let early : c.args.now < c.self.inside.due = omega arith in
    let none = none_ready c.args.now c.self.inside.due rows early c.self.invariant.dues.bound in
    rw (← c.self.view_is) (none_soonest (is_better best p c.args.table.now c.args.now) rows c.len.result (omega arith) (All-weaker (λ r. is_ready c.args.now r ≡ false) (λ r. is_better best p c.args.table.now c.args.now r ≡ false) (λ r e. fails_right (goes_before best r) (is_choice p c.args.table.now c.args.now r) (fails_left (is_ready c.args.now r) (passes p c.args.table.now r) e)) rows none))
